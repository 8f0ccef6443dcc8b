-- How far logs were read ahead of a writer.
use Rattle.std.proofs.Common.{◌≡◌, ◌⊎◌, ℕ, ◌≤◌, ◌+◌, Bool, List, [], ◌++◌, length, Option, Some, None, ap, sym, ◌∙◌, subst, arith, inl, inr}
use Rattle.lp_model.specs.Outside.{Folder, Told}
use Rattle.lp_model.specs.Reading.{Format}
use Rattle.lp_values.specs.declared.value.Value.{Value}
use Rattle.log_reading.specs.Found.{Found, Met, rows_met}
use Rattle.log_reading.specs.Spans.{AreKept, ReadsAhead, rows_up_to, spans_met, spans_size}
use Rattle.log_reading.specs.declared.span.Span.{Span}
use Rattle.text_output.specs.Output.{StageKind}
use Rattle.row_output.specs.Kept.{HasRows, asked_of}
use Rattle.row_output.specs.Sinks.{HoldsNoPiece}
use Rattle.row_output.specs.declared.kept.RowOutput.{RowOutput}
use Rattle.query_run.specs.Ahead.{GoesAhead, IsAhead}
use Rattle.query_run.specs.Rows.{picked}
use Rattle.query_run.specs.Writer.{PutsRows, Starts, Writes}
use Rattle.query_run.specs.Writing.{PicksOf}
use Rattle.query_run.specs.declared.writer.Writer.{Writer}
use Rattle.query_run.proofs.WholeRun.{told_map}

module _ {P : Type 0} {S : Type 0} (kind : StageKind S) (goes : S → S → Type 0) (picks : PicksOf P) (output : RowOutput) (by : P) (start u w z : S) (format : Format) (waits : Bool) (told : Option Folder) (spans : List Span) (size given_before given_now : ℕ) (old : Writer P) where
  -- what was met up to a place
  abbrev pub met : Folder → List Span → Span → ℕ → List Met
  met folder front span place = spans_met format waits folder front ++ rows_up_to format folder span place

  abbrev pub takes : Writer P → S → List Met → Writer P → S → Type 0
  takes a before mets b now = Writes kind picks a before (rows_met mets) b now

  abbrev pub handed : Writer P → S → Type 0
  handed writer now = HoldsNoPiece writer.output.sink

  -- what the writer has put by then
  has_by_then : (a : ReadsAhead takes goes handed format waits told spans size given_before given_now old u w) → Starts kind output by start old u
      → Told told (λ folder. AreKept format waits spans folder → (asked_of a.taker.output ≡ asked_of output) × HasRows kind a.taker.output start (picked (picks by) (rows_met (met folder a.front a.span a.place))) a.out)
  has_by_then a s = told_map told (λ folder. AreKept format waits spans folder → takes old u (met folder a.front a.span a.place) a.taker a.out)
      (λ folder. AreKept format waits spans folder → (asked_of a.taker.output ≡ asked_of output) × HasRows kind a.taker.output start (picked (picks by) (rows_met (met folder a.front a.span a.place))) a.out)
      (λ folder took kept.
      let put : PutsRows kind (picked (picks old.picker) (rows_met (met folder a.front a.span a.place))) old u a.taker a.out = (took kept).puts in
      (put.asked ∙ s.asked, subst (λ (p : P). HasRows kind a.taker.output start (picked (picks p) (rows_met (met folder a.front a.span a.place))) a.out) s.picker (put.has start [] s.has))) a.taken

  pub goes_ahead : size ≡ 65_536 → ((v : S) → goes v w → goes v z) → Starts kind output by start old u
      → (given_now ≡ given_before) ⊎ ReadsAhead takes goes handed format waits told spans size given_before given_now old u w → GoesAhead kind goes (asked_of output) (picks by) format waits told spans given_before given_now start z
  goes_ahead chunk on s (inl same) = inl same
  goes_ahead chunk on s (inr a) =
      let given = a.given in
      inr (record {
        front = a.front;
        span = a.span;
        rest = a.rest;
        stands = a.stands;
        place = a.place;
        begins = a.start;
        cut = a.cut;
        output = a.taker.output;
        reached = a.out;
        has = has_by_then a s;
        holds = a.handed;
        later = on a.out a.later;
        given = omega arith;
        below = a.below;
      })
