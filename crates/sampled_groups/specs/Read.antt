-- A run that has read its spans.
use Rattle.std.specs.Prelude.{◌≡◌, ℕ, ℤ, Bool, List, Option}
use Rattle.grammar.specs.Trees.{Query}
use Rattle.lp_model.specs.Outside.{Folder, Told}
use Rattle.lp_model.specs.Reading as reading
use Rattle.lp_time.specs.declared.piece.Piece.{Piece}
use Rattle.any_format.specs.declared.wanted.Wanted.{Wanted}
use Rattle.row_output.specs.declared.into.Into.{Into}
use Rattle.log_reading.specs.declared.page.Page.{Page}
use Rattle.log_reading.specs.declared.span.Span.{Span}
use Rattle.log_reading.specs.Spans.{AreKept}
use Rattle.column_kinds.specs.Sampling.{SampleKind}
use Rattle.column_kinds.specs.SpansTold.{SamplesSpans}
use Rattle.column_kinds.specs.declared.phase.Sampled.{Sampled}
use Rattle.sampled_groups.specs.declared.group_maker.GroupMaker.{GroupMaker}
use Rattle.sampled_groups.specs.declared.group_taker.GroupTaker.{GroupTaker}
use Rattle.sampled_groups.specs.Fresh.{IsFresh}

abbrev pub GroupPage : Type 0 → Type 0
GroupPage S = Page (Sampled (GroupMaker S) GroupTaker)

-- from a page before the first record, that is asked this, all lines of some spans are read
pub record HasRead {S : Type 0} (kind : SampleKind (GroupMaker S) GroupTaker S) (lines : reading.Format) (waits : Bool) (told : Option Folder) (spans : List Span) (limit : ℕ) (pattern : List Piece) (moment : ℤ) (query : Query) (wanted : Wanted) (into : Into) (u v : S) (page : GroupPage S) : Type 0 where
  pub first : GroupPage S
  pub is_fresh : IsFresh limit pattern moment query wanted into first.taker
  pub rows : first.rows ≡ 0
  pub bad : first.bad ≡ 0
  pub reads : Told told (λ folder. AreKept lines waits spans folder → SamplesSpans kind lines waits folder spans first page u v)
