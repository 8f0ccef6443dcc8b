-- How a taker behind a sample takes the spans of logs.
use Rattle.std.specs.Prelude.{◌≡◌, ◌+◌, Bool, List, length}
use Rattle.lp_model.specs.Outside.{Folder}
use Rattle.lp_model.specs.Reading.{Format}
use Rattle.log_reading.specs.declared.page.Page.{Page}
use Rattle.log_reading.specs.declared.span.Span.{Span}
use Rattle.log_reading.specs.Spans.{spans_bad, spans_found}
use Rattle.column_kinds.specs.Past.{Past, Later}
use Rattle.column_kinds.specs.Spans.{past_behind}
use Rattle.column_kinds.specs.Sampling.{SampleKind, Rules, Holds, PhaseStopped}
use Rattle.column_kinds.specs.declared.phase.Sampled.{Sampled}

-- what spans tell more
abbrev pub spans_told : Format → Bool → Folder → List Span → Past → Past
spans_told format waits folder spans past = past_behind format waits folder past spans

-- the records of spans were taken
pub record SamplesSpans {M T O : Type 0} (kind : SampleKind M T O) (format : Format) (waits : Bool) (folder : Folder) (spans : List Span) (old new : Page (Sampled M T)) (before now : O) : Type 0 where
  pub along : (rules : Rules M) (start : O) (past : Past) → Holds kind rules start past old.taker before → Holds kind rules start (spans_told format waits folder spans past) new.taker now
  pub rows : new.rows ≡ old.rows + length (spans_found format waits folder spans)
  pub bad : new.bad ≡ old.bad + length (spans_bad format waits folder spans)

-- it stopped within what is told more
pub record HaltsIn {M T O : Type 0} (kind : SampleKind M T O) (told : Past → Past) (old new : Sampled M T) (before now : O) : Type 0 where
  pub within : (rules : Rules M) (start : O) (past : Past) → Holds kind rules start past old before → (later : Past) → Later (told past) later → PhaseStopped kind rules start later new.phase now
