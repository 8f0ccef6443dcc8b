-- The rows of a writer behind a sample.
use Rattle.std.proofs.Common.{◌≡◌, ◌⊎◌, ◌<◌, ℕ, Bool, true, false, List, [], ◌∷◌, ◌++◌, length, Option, Some, None, IfSome, Ok, ap, ap₂, ◌∙◌, refl, sym, subst, inl, inr, arith}
use Rattle.std.proofs.lemmas.List.{append-nil}
use Rattle.lp_time.specs.declared.piece.Piece.{Piece}
use Rattle.lp_values.specs.declared.value.Value.{Value}
use Rattle.log_reading.specs.Found.{Found, rows_met}
use Rattle.log_reading.specs.declared.span.Span.{Span}
use Rattle.text_output.specs.Output.{StageKind}
use Rattle.text_output.specs.declared.target.Output.{Output}
use Rattle.row_output.specs.Asked.{Asked, left_of}
use Rattle.row_output.specs.Kept.{HasRows, asked_of}
use Rattle.row_output.specs.Rows.{Holds, IsRefusedEarly, Stops}
use Rattle.row_output.specs.Rows.{IsRefused as IsRefusedOutput}
use Rattle.row_output.proofs.Stopping.{new_has}
use Rattle.row_output.proofs.Unrefused.{rows_unrefused}
use Rattle.row_output.specs.declared.fault.OutputFault.{OutputFault}
use Rattle.row_output.specs.declared.fault.OutputFault.TheVariants as O
use Rattle.row_output.specs.declared.fault.Refused.{Refused}
use Rattle.row_output.specs.declared.kept.RowOutput.{RowOutput}
use Rattle.row_output.specs.FileRows.{OnRefused}
use Rattle.query_run.specs.Rows.{picked}
use Rattle.query_run.specs.declared.writer.Writer.{Writer}
use Rattle.query_tree.specs.Views.{query_of}
use Rattle.query_types.specs.Planned.{Planned, planned_in}
use Rattle.query_types.specs.declared.fault.TypeFault.{TypeFault}
use Rattle.column_kinds.specs.declared.judging.Judged.{Judged}
use Rattle.column_kinds.specs.declared.maker.Stop.{Stop}
use Rattle.column_kinds.specs.declared.maker.Stop.TheVariants as Why
use Rattle.column_kinds.specs.Past.{Past}
use Rattle.column_kinds.specs.Sampling.{Begun, StopsAs, TakesOn, rows_of, told_by}
use Rattle.column_kinds.specs.Sampling.{Rules as SampleRules, IsFront as SampleFront, IsUnmade as SampleRefused, IsStop as SampleStop, IsWithin as SampleWithin}
use Rattle.sampled_table.specs.declared.picking.SampledPicker.{SampledPicker}
use Rattle.sampled_run.specs.declared.row_maker.RowMaker.{RowMaker}
use Rattle.sampled_run.specs.Kinds.{Fits, picks_of, run_rules, writer_kind}
use Rattle.sampled_run.specs.InTurn.{ArePlaced, IsUnplacedAt}
use Rattle.sampled_run.specs.Made.{IsMade, asked_in, plan_over}
use Rattle.sampled_run.specs.Ran.{IsFront, IsUntyped, IsStoppedBy, IsUnplaced, IsWithin, IsWritten, ended_by, fault_of, refused_in}
use Rattle.sampled_run.specs.Rules.{plan_at, rows_with}

abbrev Rows : Type 0
Rows = List (List Value)

pub false_or_true : (b : Bool) → b ≡ false → b ≡ true → ⊥
false_or_true b down up = cc

-- what the rows of records that are met are
pub rows_again : (founds : List Found) → rows_met (rows_of founds) ≡ founds
rows_again [] = refl
rows_again (found ∷ founds) = ap (λ t. found ∷ t) (rows_again founds)

pub rows_same : (picker : SampledPicker) (pattern : List Piece) (told : Judged) (founds : List Found) → picker.pattern.now ≡ pattern → picker.told ≡ told
    → picked (picks_of picker) (rows_met (rows_of founds)) ≡ rows_with pattern told (planned_in picker.ready.plan) founds
rows_same picker pattern told founds pattern_is told_is =
    ap (picked (picks_of picker)) (rows_again founds) ∙ ap₂ (λ p t. rows_with p t (planned_in picker.ready.plan) founds) pattern_is told_is

module _ {S : Type 0} (kind : StageKind S) where
  -- a fact of the rows that a made writer was given, of those that the rules give
  made_along : (rules : SampleRules (RowMaker S)) (past : Past) (made : Writer SampledPicker) (P : Asked → Rows → Type 0) → Fits rules → IsMade rules.maker (told_by rules past) made
      → P (asked_of made.output) (picked (picks_of made.picker) (rows_met (rows_of past.founds))) → P (asked_in rules.maker (planned_in made.picker.ready.plan)) (rows_with rules.pattern (told_by rules past) (planned_in made.picker.ready.plan) past.founds)
  made_along rules past made P fits is p =
      let same = rows_same made.picker rules.pattern (told_by rules past) past.founds (is.pattern ∙ fits) is.told_is in
      subst (P (asked_in rules.maker (planned_in made.picker.ready.plan))) same (subst (λ (asked : Asked). P asked (picked (picks_of made.picker) (rows_met (rows_of past.founds)))) is.asked p)

  -- ---- all rows

  -- a fact of the rows that an output was given, of those that the rules give
  end_along : (rules : SampleRules (RowMaker S)) (begin : S) (past : Past) (writer : Writer SampledPicker) (output : RowOutput) (u : S) (P : Asked → Rows → Type 0) → Fits rules → output ≡ writer.output
      → ((rows : Rows) → HasRows kind output begin rows u → P (asked_of output) rows)
      → (begun : Begun (writer_kind kind) rules begin past writer u)
      → P (asked_in rules.maker (planned_in begun.made.picker.ready.plan)) (rows_with rules.pattern (told_by rules past) (planned_in begun.made.picker.ready.plan) past.founds)
  end_along rules begin past writer output u P fits same step begun =
      let made = begun.made in
      let is = begun.is_made in
      let puts = begun.taken.puts in
      let rows = picked (picks_of made.picker) (rows_met (rows_of past.founds)) in
      let Of : RowOutput → Type 0 = λ o. HasRows kind o begin rows u × (asked_of o ≡ asked_of made.output) in
      let put : Of output = subst Of (sym same) (puts.has begin [] (new_has kind made.output begin is.new), puts.asked) in
      made_along rules past made P fits is (subst (λ (asked : Asked). P asked rows) put.1 (step rows put.0))

  pub written_is : (rules : SampleRules (RowMaker S)) (begin : S) (past : Past) (writer : Writer SampledPicker) (output : RowOutput) (u v : S) (many : ℕ) (outputs : List Output)
      → Fits rules → output ≡ writer.output
      → ((start : S) (rows : Rows) → HasRows kind output start rows u → Holds kind (asked_of output) start rows outputs v)
      → ((start : S) (rows : Rows) → HasRows kind output start rows u → many ≡ length (left_of (asked_of output) rows))
      → Begun (writer_kind kind) rules begin past writer u → IsWritten kind (run_rules rules) begin past many outputs v
  written_is rules begin past writer output u v many outputs fits same hold count begun =
      let P : Asked → Rows → Type 0 = λ asked rows. Holds kind asked begin rows outputs v × (many ≡ length (left_of asked rows)) in
      let both = end_along rules begin past writer output u P fits same (λ rows has. (hold begin rows has, count begin rows has)) begun in
      record { plan = planned_in begun.made.picker.ready.plan; planned = begun.is_made.planned; holds = both.0; rows = both.1 }

  -- ---- not all of them

  pub stops_is : (rules : SampleRules (RowMaker S)) (begin : S) (past : Past) (last : Writer SampledPicker) (v : S) → Fits rules → StopsAs (writer_kind kind) rules begin past last v → IsWithin kind (run_rules rules) begin past v
  stops_is rules begin past last v fits stops =
      let made = stops.made in
      let is = stops.is_made in
      let rows = picked (picks_of made.picker) (rows_met (rows_of past.founds)) in
      let P : Asked → Rows → Type 0 = λ asked rows. Stops kind asked begin rows v in
      let here : P (asked_of made.output) rows = subst (P (asked_of made.output)) (append-nil rows) (stops.stopped.stop begin [] [] (new_has kind made.output begin is.new)) in
      record { plan = planned_in made.picker.ready.plan; planned = is.planned; stops = made_along rules past made P fits is here }

  -- an output was refused
  pub unplaced_is : (rules : SampleRules (RowMaker S)) (begin : S) (past : Past) (last : Writer SampledPicker) (why : Refused) (v : S) → Fits rules → last.refused ≡ Some why → StopsAs (writer_kind kind) rules begin past last v → IsUnplaced kind (run_rules rules) begin past why v
  unplaced_is rules begin past last why v fits refused stops =
      let made = stops.made in
      let is = stops.is_made in
      let rows = picked (picks_of made.picker) (rows_met (rows_of past.founds)) in
      let has = new_has kind made.output begin is.new in
      let P : Asked → Rows → Type 0 = λ asked rows. Stops kind asked begin rows v × IsRefusedOutput asked rows why in
      let At : Rows → Type 0 = P (asked_of made.output) in
      let told : IfSome (Some why) (IsRefusedOutput (asked_of made.output) (rows ++ [])) = subst (λ (o : Option Refused). IfSome o (IsRefusedOutput (asked_of made.output) (rows ++ []))) refused (stops.stopped.refused is.refused begin [] [] has) in
      let here : At rows = subst At (append-nil rows) (stops.stopped.stop begin [] [] has, told) in
      let both = made_along rules past made P fits is here in
      record { plan = planned_in made.picker.ready.plan; planned = is.planned; stops = both.0; refused = both.1 }

  -- the query's plan, where what the records tell stays
  planned_later : (rules : SampleRules (RowMaker S)) (past all : Past) (made : Writer SampledPicker) → told_by rules all ≡ told_by rules past → IsMade rules.maker (told_by rules past) made
      → plan_at (run_rules rules) all ≡ Ok (planned_in made.picker.ready.plan)
  planned_later rules past all made stays is = subst (λ (told : Judged). plan_over rules.maker told ≡ Ok (planned_in made.picker.ready.plan)) (sym stays) is.planned

  -- and its rows
  rows_later : (rules : SampleRules (RowMaker S)) (past all : Past) (founds : List Found) (plan : Planned) → told_by rules all ≡ told_by rules past → past.founds ≡ founds
      → rows_with rules.pattern (told_by rules past) plan past.founds ≡ rows_with rules.pattern (told_by rules all) plan founds
  rows_later rules past all founds plan stays same = ap₂ (λ (told : Judged) (t : List Found). rows_with rules.pattern told plan t) (sym stays) same

  -- it was refused before the last row was there
  pub unplaced_at : (rules : SampleRules (RowMaker S)) (begin : S) (past all : Past) (founds : List Found) (rest : List Span) (last : Writer SampledPicker) (why : Refused) (v : S)
      → Fits rules → told_by rules all ≡ told_by rules past → past.founds ≡ founds → last.refused ≡ Some why → StopsAs (writer_kind kind) rules begin past last v → IsUnplacedAt (run_rules rules) all founds rest why
  unplaced_at rules begin past all founds rest last why v fits stays same refused stops =
      let made = stops.made in
      let is = stops.is_made in
      let plan = planned_in made.picker.ready.plan in
      let rows = picked (picks_of made.picker) (rows_met (rows_of past.founds)) in
      let has = new_has kind made.output begin is.new in
      let P : Asked → Rows → Type 0 = λ asked rows. IsRefusedOutput asked rows why in
      let At : Rows → Type 0 = P (asked_of made.output) in
      let told : IfSome (Some why) (IsRefusedOutput (asked_of made.output) (rows ++ [])) = subst (λ (o : Option Refused). IfSome o (IsRefusedOutput (asked_of made.output) (rows ++ []))) refused (stops.stopped.refused is.refused begin [] [] has) in
      let Early : Option Refused → Type 0 = λ o. IfSome o (IsRefusedEarly (asked_of made.output)) in
      let early : IsRefusedEarly (asked_of made.output) why = subst Early refused (stops.stopped.early is.refused begin [] has) in
      record {
        plan = plan;
        planned = planned_later rules past all made stays is;
        refused = subst (P (asked_in rules.maker plan)) (rows_later rules past all founds plan stays same) (made_along rules past made P fits is (subst At (append-nil rows) told));
        early = inl (subst (λ (asked : Asked). IsRefusedEarly asked why) is.asked early);
      }

  -- no output is refused that may be before the last row is there
  rows_free : (o : RowOutput) (begin now : S) (rows : Rows) (why : Refused) → HasRows kind o begin rows now → ((why : Refused) → IsRefusedOutput (asked_of o) [] why → ⊥) → IsRefusedEarly (asked_of o) why → IsRefusedOutput (asked_of o) rows why → ⊥
  rows_free o begin now rows why has free (inl plain) refused = rows_unrefused kind o begin rows now has plain free why refused
  rows_free o begin now rows why has free (inr first) refused = free why first

  -- behind a record the output is opened
  opened_now : (founds : List Found) (Opened : Type 0) → 0 < length founds → (rows_met (rows_of founds) ≡ []) ⊎ Opened → Opened
  opened_now founds Opened some (inl none) =
      let size : length founds ≡ 0 = ap length (sym (rows_again founds) ∙ none) in
      absurd (omega (arith, size, some))
  opened_now founds Opened some (inr opened) = opened

  -- the rows of all records so far were put
  pub placed_is : (rules : SampleRules (RowMaker S)) (begin : S) (past all : Past) (founds : List Found) (writer : Writer SampledPicker) (now : S)
      → Fits rules → told_by rules all ≡ told_by rules past → past.founds ≡ founds → TakesOn (writer_kind kind) rules begin past writer now → ArePlaced (run_rules rules) all founds
  placed_is rules begin past all founds writer now fits stays same on =
      let made = on.begun.made in
      let is = on.begun.is_made in
      let puts = on.begun.taken.puts in
      let plan = planned_in made.picker.ready.plan in
      let rows = picked (picks_of made.picker) (rows_met (rows_of past.founds)) in
      let new = new_has kind made.output begin is.new in
      let opened = opened_now past.founds (writer.opened ≡ true) on.told.some on.begun.taken.opens in
      let free = puts.named begin [] new (λ up. absurd (false_or_true made.opened is.opened up)) opened in
      let Free : Asked → Rows → Type 0 = λ asked rows. (why : Refused) → IsRefusedEarly asked why → IsRefusedOutput asked rows why → ⊥ in
      let here : Free (asked_of writer.output) rows = λ why early refused. rows_free writer.output begin now rows why (puts.has begin [] new) free early refused in
      let rows_are = rows_same made.picker rules.pattern (told_by rules past) past.founds (is.pattern ∙ fits) is.told_is ∙ rows_later rules past all founds plan stays same in
      record {
        plan = plan;
        planned = planned_later rules past all made stays is;
        placed = subst (Free (asked_in rules.maker plan)) rows_are (subst (λ (asked : Asked). Free asked rows) (puts.asked ∙ is.asked) here);
      }

  pub front_is : (rules : SampleRules (RowMaker S)) (begin : S) (past : Past) (v : S) → Fits rules → SampleFront (writer_kind kind) rules begin past v → IsFront kind (run_rules rules) begin past v
  front_is rules begin past v fits (inl nothing) = inl nothing
  front_is rules begin past v fits (inr within) = inr (stops_is rules begin past within.last v fits within.stops)

  pub refused_is : (rules : SampleRules (RowMaker S)) (begin : S) (past : Past) (fault : TypeFault) (v : S) → SampleRefused (writer_kind kind) rules begin past fault v → IsUntyped (run_rules rules) begin past fault v
  refused_is rules begin past fault v refused = record { fault = refused.refused; nothing = refused.nothing }

  -- the writer stopped: for what it refused, or for want of memory
  pub writer_stopped : (rules : SampleRules (RowMaker S)) (begin : S) (past : Past) (last : Writer SampledPicker) (refused : Option Refused) (v : S) → Fits rules → last.refused ≡ refused → StopsAs (writer_kind kind) rules begin past last v
      → IsStoppedBy kind (run_rules rules) begin past (refused_in refused) v
  writer_stopped rules begin past last None v fits is stops = inr (stops_is rules begin past last v fits stops)
  writer_stopped rules begin past last (Some why) v fits is stops = unplaced_is rules begin past last why v fits is stops

  pub stop_is : (rules : SampleRules (RowMaker S)) (begin : S) (past : Past) (stop : Stop (Writer SampledPicker)) (v : S) → Fits rules → SampleStop (writer_kind kind) rules begin past stop v → IsStoppedBy kind (run_rules rules) begin past (fault_of stop) v
  stop_is rules begin past (Why.Refused fault) v fits stopped = refused_is rules begin past fault v stopped
  stop_is rules begin past (Why.Stopped writer) v fits stopped = writer_stopped rules begin past writer writer.refused v fits refl stopped
  stop_is rules begin past Why.Failed v fits stopped = front_is rules begin past v fits stopped
  stop_is rules begin past Why.Memory v fits stopped = front_is rules begin past v fits stopped

  -- ---- the end failed

  end_within : (rules : SampleRules (RowMaker S)) (begin : S) (past : Past) (writer : Writer SampledPicker) (output : RowOutput) (u v : S) → Fits rules → output ≡ writer.output
      → ((start : S) (rows : Rows) → HasRows kind output start rows u → Stops kind (asked_of output) start rows v)
      → Begun (writer_kind kind) rules begin past writer u → IsWithin kind (run_rules rules) begin past v
  end_within rules begin past writer output u v fits same stop begun =
      let P : Asked → Rows → Type 0 = λ asked rows. Stops kind asked begin rows v in
      record { plan = planned_in begun.made.picker.ready.plan; planned = begun.is_made.planned; stops = end_along rules begin past writer output u P fits same (λ rows has. stop begin rows has) begun }

  pub end_stopped : (rules : SampleRules (RowMaker S)) (begin : S) (past : Past) (writer : Writer SampledPicker) (output : RowOutput) (u v : S) (fault : OutputFault)
      → Fits rules → output ≡ writer.output
      → ((start : S) (rows : Rows) → HasRows kind output start rows u → Stops kind (asked_of output) start rows v)
      → OnRefused (λ why. (start : S) (rows : Rows) → HasRows kind output start rows u → IsRefusedOutput (asked_of output) rows why) fault
      → Begun (writer_kind kind) rules begin past writer u → IsStoppedBy kind (run_rules rules) begin past (ended_by fault) v
  end_stopped rules begin past writer output u v (O.Refused why) fits same stop refused begun =
      let P : Asked → Rows → Type 0 = λ asked rows. Stops kind asked begin rows v × IsRefusedOutput asked rows why in
      let both = end_along rules begin past writer output u P fits same (λ rows has. (stop begin rows has, refused begin rows has)) begun in
      record { plan = planned_in begun.made.picker.ready.plan; planned = begun.is_made.planned; stops = both.0; refused = both.1 }
  end_stopped rules begin past writer output u v O.Failed fits same stop refused begun = inr (end_within rules begin past writer output u v fits same stop begun)
  end_stopped rules begin past writer output u v O.Memory fits same stop refused begun = inr (end_within rules begin past writer output u v fits same stop begun)
