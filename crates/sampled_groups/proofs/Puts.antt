-- The rows of a taker of groups behind a sample.
use Rattle.std.proofs.Common.{◌≡◌, ◌<◌, ℕ, true, List, [], ◌∷◌, ◌++◌, length, Option, Some, None, IfSome, Ok, option_map, ap, ap₂, ◌∙◌, refl, sym, subst, inl, inr, arith}
use Rattle.lp_time.specs.declared.piece.Piece.{Piece}
use Rattle.lp_values.specs.declared.value.Value.{Value}
use Rattle.log_reading.specs.Found.{Found, rows_met}
use Rattle.text_output.specs.Output.{StageKind}
use Rattle.text_output.specs.declared.target.Output.{Output}
use Rattle.row_output.specs.Asked.{Asked, left_of}
use Rattle.row_output.specs.FileRows.{OnRefused}
use Rattle.row_output.specs.Kept.{HasRows, asked_of}
use Rattle.row_output.specs.Rows.{Holds, Stops}
use Rattle.row_output.specs.Rows.{IsRefused as IsRefusedOutput}
use Rattle.row_output.proofs.Stopping.{new_has}
use Rattle.row_output.proofs.Unrefused.{opened_unrefused}
use Rattle.row_output.specs.declared.fault.OutputFault.{OutputFault}
use Rattle.row_output.specs.declared.fault.OutputFault.TheVariants as O
use Rattle.row_output.specs.declared.fault.Refused.{Refused}
use Rattle.row_output.specs.declared.kept.RowOutput.{RowOutput}
use Rattle.query_types.specs.Conditions.{filter_of}
use Rattle.query_types.specs.Planned.{planned_in}
use Rattle.query_types.specs.declared.fault.TypeFault.{TypeFault}
use Rattle.query_types.specs.declared.plans.GroupShape.{GroupShape}
use Rattle.query_types.specs.declared.plans.Plan.{Plan}
use Rattle.plan_rows.specs.declared.ready.ReadyPlan.{ReadyPlan}
use Rattle.group_planning.specs.Groups.{grouped_in}
use Rattle.group_rollup.specs.Groups.{grouped}
use Rattle.group_rollup.specs.Tables.{Table}
use Rattle.row_steps.specs.Grouped.{group_output, records_of}
use Rattle.row_steps.specs.Rows.{OnGroups, Rows}
use Rattle.column_kinds.specs.declared.judging.Judged.{Judged}
use Rattle.column_kinds.specs.declared.maker.Stop.{Stop}
use Rattle.column_kinds.specs.declared.maker.Stop.TheVariants as Why
use Rattle.column_kinds.specs.Past.{Past}
use Rattle.column_kinds.specs.Sampling.{Begun, StopsAs, TakesOn, rows_of, told_by}
use Rattle.column_kinds.specs.Sampling.{Rules as SampleRules, IsFront as SampleFront, IsUnmade as SampleRefused, IsStop as SampleStop}
use Rattle.sampled_table.specs.Picks.{sampled_picks}
use Rattle.sampled_run.specs.Ran.{ended_by, refused_in}
use Rattle.sampled_run.proofs.Puts.{false_or_true, rows_again}
use Rattle.sampled_groups.specs.declared.group_maker.GroupMaker.{GroupMaker}
use Rattle.sampled_groups.specs.declared.group_taker.GroupTaker.{GroupTaker}
use Rattle.sampled_groups.specs.Kinds.{Fits, group_kind, run_rules}
use Rattle.sampled_groups.specs.InTurn.{ArePlaced}
use Rattle.sampled_groups.specs.Made.{IsMade, asked_in, plan_over}
use Rattle.sampled_groups.specs.Ran.{IsFront, IsUntypedGroups, IsStoppedBy, IsUnplaced, IsUnplacedFirst, IsWithin, IsWritten, fault_of}
use Rattle.sampled_groups.specs.Rules.{plan_at, rows_with}
use Rattle.sampled_groups.specs.Taking.{HasNone, OnAny}

-- the rows that plans over a record's row and over a group's row make of records
abbrev rows_by : List Piece → Judged → Plan → Plan → GroupShape → ℕ → List Found → Rows
rows_by pattern told rows groups shape width founds =
    group_output groups (grouped shape.keys shape.aggregates shape.rollup (records_of width (sampled_picks pattern told rows.items (option_map filter_of rows.condition)) founds))

rows_same : (shape : GroupShape) (p pattern : List Piece) (t told : Judged) (r rows g groups : Plan) (w width : ℕ) (f founds : List Found) → p ≡ pattern → t ≡ told → r ≡ rows → g ≡ groups → w ≡ width → f ≡ founds
    → rows_by p t r g shape w f ≡ rows_by pattern told rows groups shape width founds
rows_same shape p pattern t told r rows g groups w width f founds pattern_is told_is rows_is groups_is width_is founds_is =
    ap₂ (λ (x : List Piece) (y : Judged). rows_by x y r g shape w f) pattern_is told_is
    ∙ (ap₂ (λ (x y : Plan). rows_by pattern told x y shape w f) rows_is groups_is
    ∙ ap₂ (λ (x : ℕ) (y : List Found). rows_by pattern told rows groups shape x y) width_is founds_is)

module _ {S : Type 0} (kind : StageKind S) where
  -- a taker that is made has put no row, and opened no output
  made_has : (maker : GroupMaker S) (told : Judged) (made : GroupTaker) (begin : S) → IsMade maker told made → HasNone kind made begin begin
  made_has maker told made begin is = record {
    has = new_has kind made.output begin is.ready.new;
    opened = λ up. absurd (false_or_true made.opened is.ready.unopened up);
  }

  -- while records were taken no row was put
  begun_has : (rules : SampleRules (GroupMaker S)) (begin : S) (past : Past) (taker : GroupTaker) (u : S) → Begun (group_kind kind) rules begin past taker u → HasRows kind taker.output begin [] u
  begun_has rules begin past taker u begun = (begun.taken.none begin (made_has rules.maker (told_by rules past) begun.made begin begun.is_made)).has

  -- a fact of the rows that are made of the groups which were gathered, of those that the rules give
  along_groups : (rules : SampleRules (GroupMaker S)) (begin : S) (past : Past) (taker : GroupTaker) (u : S) (P : Asked → Rows → Type 0) → Fits rules → (begun : Begun (group_kind kind) rules begin past taker u)
      → OnGroups taker.rows.plan.plan taker.rows.groups (P (asked_of taker.output))
      → P (asked_in rules.maker (planned_in begun.is_made.plan.groups)) (rows_with rules.pattern (told_by rules past) (grouped_in begun.is_made.plan) past.founds)
  along_groups rules begin past taker u P fits begun on =
      let made = begun.made in
      let is = begun.is_made.ready in
      let took = begun.taken in
      let plan = begun.is_made.plan in
      let shape = plan.shape in
      let founds = rows_met (rows_of past.founds) in
      let here = on shape.keys shape.aggregates shape.rollup _ (took.gathers.grown shape.keys shape.aggregates shape.rollup [] is.none) in
      let asked = took.asked ∙ is.asked_is in
      let same = rows_same shape made.rows.picker.pattern.now rules.pattern made.rows.picker.told (told_by rules past) made.rows.picker.ready.plan plan.rows taker.rows.plan.plan plan.groups made.rows.groups.width shape.keys founds past.founds
      (is.pattern_is ∙ fits) is.told_is is.rows (ap (λ (ready : ReadyPlan). ready.plan) took.gathers.plan ∙ is.groups) is.none.wide (rows_again past.founds) in
      subst (P (asked_in rules.maker (planned_in plan.groups))) same (subst (λ (a : Asked). P a (rows_by made.rows.picker.pattern.now made.rows.picker.told made.rows.picker.ready.plan taker.rows.plan.plan shape made.rows.groups.width founds)) asked here)

  -- ---- all rows

  pub written_is : (rules : SampleRules (GroupMaker S)) (begin : S) (past : Past) (taker : GroupTaker) (u v : S) (many : ℕ) (outputs : List Output) → Fits rules
      → ((start : S) → HasRows kind taker.output start [] u → OnGroups taker.rows.plan.plan taker.rows.groups (λ out. Holds kind (asked_of taker.output) start out outputs v))
      → ((start : S) → HasRows kind taker.output start [] u → OnGroups taker.rows.plan.plan taker.rows.groups (λ out. many ≡ length (left_of (asked_of taker.output) out)))
      → Begun (group_kind kind) rules begin past taker u → IsWritten kind (run_rules rules) begin past many outputs v
  written_is rules begin past taker u v many outputs fits hold count begun =
      let has = begun_has rules begin past taker u begun in
      let P : Asked → Rows → Type 0 = λ asked out. Holds kind asked begin out outputs v × (many ≡ length (left_of asked out)) in
      let both = along_groups rules begin past taker u P fits begun (λ width kinds rollup records holds. (hold begin has width kinds rollup records holds, count begin has width kinds rollup records holds)) in
      record { plan = grouped_in begun.is_made.plan; planned = begun.is_made.planned; holds = both.0; rows = both.1 }

  -- ---- not all of them

  -- a fact of what the rules ask and give, whatever rows came
  stops_is : (rules : SampleRules (GroupMaker S)) (begin : S) (past : Past) (last : GroupTaker) (v : S) → StopsAs (group_kind kind) rules begin past last v → IsWithin kind (run_rules rules) begin past v
  stops_is rules begin past last v stops =
      let made = stops.made in
      let is = stops.is_made in
      let plan = grouped_in is.plan in
      let rows = rows_with rules.pattern (told_by rules past) plan past.founds in
      record {
        plan = plan;
        planned = is.planned;
        stops = subst (λ (asked : Asked). Stops kind asked begin rows v) is.ready.asked_is (stops.stopped.stop begin rows (made_has rules.maker (told_by rules past) made begin is));
      }

  -- an output was refused
  unplaced_is : (rules : SampleRules (GroupMaker S)) (begin : S) (past : Past) (last : GroupTaker) (why : Refused) (v : S) → last.refused ≡ Some why → StopsAs (group_kind kind) rules begin past last v → IsUnplaced kind (run_rules rules) begin past why v
  unplaced_is rules begin past last why v refused stops =
      let made = stops.made in
      let is = stops.is_made in
      let plan = grouped_in is.plan in
      let rows = rows_with rules.pattern (told_by rules past) plan past.founds in
      let has = made_has rules.maker (told_by rules past) made begin is in
      let told : IsRefusedOutput (asked_of made.output) rows why = subst (λ (o : Option Refused). IfSome o (IsRefusedOutput (asked_of made.output) rows)) refused (stops.stopped.refused is.ready.unrefused begin rows has) in
      record {
        plan = plan;
        planned = is.planned;
        stops = subst (λ (asked : Asked). Stops kind asked begin rows v) is.ready.asked_is (stops.stopped.stop begin rows has);
        refused = subst (λ (asked : Asked). IsRefusedOutput asked rows why) is.ready.asked_is told;
      }

  -- the query's plan, where what the records tell stays
  planned_later : (rules : SampleRules (GroupMaker S)) (past all : Past) (made : GroupTaker) → told_by rules all ≡ told_by rules past → (is : IsMade rules.maker (told_by rules past) made) → plan_at (run_rules rules) all ≡ Ok (grouped_in is.plan)
  planned_later rules past all made stays is = subst (λ (told : Judged). plan_over rules.maker told ≡ Ok (grouped_in is.plan)) (sym stays) is.planned

  -- it was refused before any row
  pub unplaced_first : (rules : SampleRules (GroupMaker S)) (begin : S) (past all : Past) (last : GroupTaker) (why : Refused) (v : S) → told_by rules all ≡ told_by rules past → last.refused ≡ Some why → StopsAs (group_kind kind) rules begin past last v
      → IsUnplacedFirst (run_rules rules) all why
  unplaced_first rules begin past all last why v stays refused stops =
      let made = stops.made in
      let is = stops.is_made in
      let First : Option Refused → Type 0 = λ o. IfSome o (IsRefusedOutput (asked_of made.output) []) in
      let told : IsRefusedOutput (asked_of made.output) [] why = subst First refused (stops.stopped.refused is.ready.unrefused begin [] (made_has rules.maker (told_by rules past) made begin is)) in
      record { plan = grouped_in is.plan; planned = planned_later rules past all made stays is; refused = subst (λ (asked : Asked). IsRefusedOutput asked [] why) is.ready.asked_is told }

  -- behind a record the output of a name without stars is opened
  opened_now : (founds : List Found) (Opened : Type 0) → 0 < length founds → OnAny (rows_met (rows_of founds)) Opened → Opened
  opened_now [] Opened some is = absurd (omega (arith, some))
  opened_now (found ∷ founds) Opened some is = is

  -- so it isn't refused
  pub placed_is : (rules : SampleRules (GroupMaker S)) (begin : S) (past all : Past) (taker : GroupTaker) (now : S) → told_by rules all ≡ told_by rules past → TakesOn (group_kind kind) rules begin past taker now → ArePlaced (run_rules rules) all
  placed_is rules begin past all taker now stays on =
      let made = on.begun.made in
      let is = on.begun.is_made in
      let took = on.begun.taken in
      let none = took.none begin (made_has rules.maker (told_by rules past) made begin is) in
      let opened = none.opened (opened_now past.founds (taker.opened ≡ true) on.told.some took.opened) in
      let Free : Asked → Type 0 = λ asked. (why : Refused) → IsRefusedOutput asked [] why → ⊥ in
      let here : Free (asked_of taker.output) = λ why refused. opened_unrefused kind taker.output begin [] now why none.has opened refused in
      record { plan = grouped_in is.plan; planned = planned_later rules past all made stays is; placed = subst Free (took.asked ∙ is.ready.asked_is) here }

  -- the taker stopped: for what it refused, or for want of memory
  pub taker_stopped : (rules : SampleRules (GroupMaker S)) (begin : S) (past : Past) (last : GroupTaker) (refused : Option Refused) (v : S) → last.refused ≡ refused → StopsAs (group_kind kind) rules begin past last v
      → IsStoppedBy kind (run_rules rules) begin past (refused_in refused) v
  taker_stopped rules begin past last None v is stops = inr (stops_is rules begin past last v stops)
  taker_stopped rules begin past last (Some why) v is stops = unplaced_is rules begin past last why v is stops

  pub taking_within : (rules : SampleRules (GroupMaker S)) (begin : S) (past : Past) (last : GroupTaker) (v : S) → StopsAs (group_kind kind) rules begin past last v → IsFront kind (run_rules rules) begin past v
  taking_within rules begin past last v stops = inr (stops_is rules begin past last v stops)

  pub front_is : (rules : SampleRules (GroupMaker S)) (begin : S) (past : Past) (v : S) → SampleFront (group_kind kind) rules begin past v → IsFront kind (run_rules rules) begin past v
  front_is rules begin past v (inl nothing) = inl nothing
  front_is rules begin past v (inr within) = inr (stops_is rules begin past within.last v within.stops)

  pub refused_is : (rules : SampleRules (GroupMaker S)) (begin : S) (past : Past) (fault : TypeFault) (v : S) → SampleRefused (group_kind kind) rules begin past fault v → IsUntypedGroups (run_rules rules) begin past fault v
  refused_is rules begin past fault v refused = record { fault = refused.refused; nothing = refused.nothing }

  pub stop_is : (rules : SampleRules (GroupMaker S)) (begin : S) (past : Past) (stop : Stop GroupTaker) (v : S) → SampleStop (group_kind kind) rules begin past stop v → IsStoppedBy kind (run_rules rules) begin past (fault_of stop) v
  stop_is rules begin past (Why.Refused fault) v stopped = refused_is rules begin past fault v stopped
  stop_is rules begin past (Why.Stopped taker) v stopped = taker_stopped rules begin past taker taker.refused v refl stopped
  stop_is rules begin past Why.Failed v stopped = front_is rules begin past v stopped
  stop_is rules begin past Why.Memory v stopped = front_is rules begin past v stopped

  -- ---- the end failed

  end_within : (rules : SampleRules (GroupMaker S)) (begin : S) (past : Past) (taker : GroupTaker) (u v : S) → Fits rules
      → ((start : S) → HasRows kind taker.output start [] u → OnGroups taker.rows.plan.plan taker.rows.groups (λ out. Stops kind (asked_of taker.output) start out v))
      → Begun (group_kind kind) rules begin past taker u → IsWithin kind (run_rules rules) begin past v
  end_within rules begin past taker u v fits stop begun =
      let P : Asked → Rows → Type 0 = λ asked out. Stops kind asked begin out v in
      record { plan = grouped_in begun.is_made.plan; planned = begun.is_made.planned; stops = along_groups rules begin past taker u P fits begun (stop begin (begun_has rules begin past taker u begun)) }

  pub end_stopped : (rules : SampleRules (GroupMaker S)) (begin : S) (past : Past) (taker : GroupTaker) (u v : S) (fault : OutputFault) → Fits rules
      → ((start : S) → HasRows kind taker.output start [] u → OnGroups taker.rows.plan.plan taker.rows.groups (λ out. Stops kind (asked_of taker.output) start out v))
      → OnRefused (λ why. (start : S) → HasRows kind taker.output start [] u → OnGroups taker.rows.plan.plan taker.rows.groups (λ out. IsRefusedOutput (asked_of taker.output) out why)) fault
      → Begun (group_kind kind) rules begin past taker u → IsStoppedBy kind (run_rules rules) begin past (ended_by fault) v
  end_stopped rules begin past taker u v (O.Refused why) fits stop refused begun =
      let has = begun_has rules begin past taker u begun in
      let P : Asked → Rows → Type 0 = λ asked out. Stops kind asked begin out v × IsRefusedOutput asked out why in
      let both = along_groups rules begin past taker u P fits begun (λ width kinds rollup records holds. (stop begin has width kinds rollup records holds, refused begin has width kinds rollup records holds)) in
      record { plan = grouped_in begun.is_made.plan; planned = begun.is_made.planned; stops = both.0; refused = both.1 }
  end_stopped rules begin past taker u v O.Failed fits stop refused begun = inr (end_within rules begin past taker u v fits stop begun)
  end_stopped rules begin past taker u v O.Memory fits stop refused begun = inr (end_within rules begin past taker u v fits stop begun)

-- ---- the outputs are opened, and then the rows of the groups put

module _ {S : Type 0} (kind : StageKind S) (plan : Plan) (table : Table) (old new : RowOutput) (u v : S) where
  -- what the end makes of them
  pub opened_ends : (Out : Asked → S → Rows → Type 0) → asked_of new ≡ asked_of old → ((start : S) (rows : Rows) → HasRows kind old start rows u → HasRows kind new start rows v)
      → ((start : S) → HasRows kind new start [] v → OnGroups plan table (Out (asked_of new) start)) → (start : S) → HasRows kind old start [] u → OnGroups plan table (Out (asked_of old) start)
  opened_ends Out asked has end start old_has = subst (λ (a : Asked). OnGroups plan table (Out a start)) asked (end start (has start [] old_has))

  -- why it was refused
  pub opened_refused : (fault : OutputFault) → asked_of new ≡ asked_of old → ((start : S) (rows : Rows) → HasRows kind old start rows u → HasRows kind new start rows v)
      → OnRefused (λ why. (start : S) → HasRows kind new start [] v → OnGroups plan table (λ out. IsRefusedOutput (asked_of new) out why)) fault
      → OnRefused (λ why. (start : S) → HasRows kind old start [] u → OnGroups plan table (λ out. IsRefusedOutput (asked_of old) out why)) fault
  opened_refused (O.Refused why) asked has end = opened_ends (λ asked start out. IsRefusedOutput asked out why) asked has end
  opened_refused O.Failed asked has end = tt
  opened_refused O.Memory asked has end = tt

module _ {S : Type 0} (kind : StageKind S) (plan : Plan) (table : Table) (old : RowOutput) (u w : S) where
  -- it stopped before any row
  pub unopened_stops : ((start : S) (rows more : Rows) → HasRows kind old start rows u → Stops kind (asked_of old) start (rows ++ more) w) → (start : S) → HasRows kind old start [] u → OnGroups plan table (λ out. Stops kind (asked_of old) start out w)
  unopened_stops stop start has = λ width kinds rollup records holds. stop start [] (group_output plan (grouped width kinds rollup records)) has

  pub unopened_refused : (fault : OutputFault) → OnRefused (λ why. (start : S) (rows more : Rows) → HasRows kind old start rows u → IsRefusedOutput (asked_of old) (rows ++ more) why) fault
      → OnRefused (λ why. (start : S) → HasRows kind old start [] u → OnGroups plan table (λ out. IsRefusedOutput (asked_of old) out why)) fault
  unopened_refused (O.Refused why) refused = λ start has width kinds rollup records holds. refused start [] (group_output plan (grouped width kinds rollup records)) has
  unopened_refused O.Failed refused = tt
  unopened_refused O.Memory refused = tt
