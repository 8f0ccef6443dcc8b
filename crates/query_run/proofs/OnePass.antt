-- Rows that become text at once go to standard output while their logs are read.
use Rattle.std.proofs.Common.{◌≡◌, ◌⊎◌, ◌++◌, ℕ, Bool, true, List, Option, subst, sym, inl, inr}
use Rattle.lp_model.specs.Outside.{Folder, Told}
use Rattle.lp_model.specs.Reading.{Format}
use Rattle.lp_values.specs.declared.value.Value.{Value}
use Rattle.log_reading.specs.Found.{Found, rows_met}
use Rattle.log_reading.specs.Spans.{AreKept, rows_up_to, spans_met}
use Rattle.log_reading.specs.declared.span.Span.{Span}
use Rattle.text_output.specs.Output.{StageKind}
use Rattle.row_output.specs.Asked.{Asked, asked_text}
use Rattle.row_output.specs.Kept.{HasRows, asked_of}
use Rattle.row_output.specs.Rows.{GainsNearly}
use Rattle.row_output.specs.Sinks.{HoldsNoPiece}
use Rattle.row_output.specs.declared.kept.RowOutput.{RowOutput}
use Rattle.row_output.proofs.AtOnce.{rows_nearly}
use Rattle.query_run.specs.Ahead.{AreAtOnce, GoesAhead, IsAhead, IsPassed}
use Rattle.query_run.specs.Rows.{picked}
use Rattle.query_run.proofs.WholeRun.{told_map}

-- what standard output has of the rows that an output was given
nearly_asked : {S : Type 0} (kind : StageKind S) (asked : Asked) (o : RowOutput) (start : S) (rows : List (List Value)) (now : S) → AreAtOnce asked → HoldsNoPiece o.sink → asked_of o ≡ asked → HasRows kind o start rows now
    → GainsNearly kind start (asked_text asked true rows) now
nearly_asked kind asked o start rows now once little same has =
    let own : AreAtOnce (asked_of o) = subst AreAtOnce (sym same) once in
    subst (λ (a : Asked). GainsNearly kind start (asked_text a true rows) now) same (rows_nearly kind o start rows now own.0 own.1 own.2 little has)

pub in_one_pass : {S : Type 0} (kind : StageKind S) (goes : S → S → Type 0) (asked : Asked) (picks : Found → Option (List Value)) (format : Format) (waits : Bool) (told : Option Folder) (spans : List Span) (before now : ℕ) (start end : S) → AreAtOnce asked
    → GoesAhead kind goes asked picks format waits told spans before now start end → (now ≡ before) ⊎ IsPassed kind goes (asked_text asked) picks format waits told spans before now start end
in_one_pass kind goes asked picks format waits told spans before now start end once (inl same) = inl same
in_one_pass kind goes asked picks format waits told spans before now start end once (inr a) =
    let rows : Folder → List (List Value) = λ folder. picked picks (rows_met (spans_met format waits folder a.front ++ rows_up_to format folder a.span a.place)) in
    inr (record {
      front = a.front;
      span = a.span;
      rest = a.rest;
      stands = a.stands;
      place = a.place;
      begins = a.begins;
      cut = a.cut;
      reached = a.reached;
      gained = told_map told (λ folder. AreKept format waits spans folder → (asked_of a.output ≡ asked) × HasRows kind a.output start (rows folder) a.reached)
          (λ folder. AreKept format waits spans folder → GainsNearly kind start (asked_text asked true (rows folder)) a.reached)
          (λ folder put kept. nearly_asked kind asked a.output start (rows folder) a.reached once a.holds (put kept).0 (put kept).1) a.has;
      later = a.later;
      given = a.given;
      below = a.below;
    })
