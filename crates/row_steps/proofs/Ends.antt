-- From the groups that were gathered to the outputs.
use Rattle.std.proofs.Common.{◌≡◌, ℕ, Bool, List, [], Option, ◌∙◌, ap, subst}
use Rattle.std.proofs.lemmas.List.{append-nil}
use Rattle.lp_values.specs.declared.value.Value.{Value}
use Rattle.lp_values.specs.declared.group.AggKind.{AggKind}
use Rattle.lp_values.specs.declared.group.GroupRow.{GroupRow}
use Rattle.lp_model.specs.Outside.{Folder, Told}
use Rattle.lp_model.specs.Reading.{Format}
use Rattle.log_reading.specs.Found.{Found, rows_met}
use Rattle.log_reading.specs.Spans.{AreKept, TakesSpans, spans_found}
use Rattle.log_reading.specs.declared.page.Page.{Page}
use Rattle.log_reading.specs.declared.span.Span.{Span}
use Rattle.log_reading.proofs.RowsMet.{rows_met_spans}
use Rattle.group_rollup.specs.Groups.{Record, grouped}
use Rattle.group_rollup.specs.Tables.{Table, Holds}
use Rattle.plan_rows.specs.declared.ready.ReadyPlan.{ReadyPlan}
use Rattle.query_types.specs.declared.plans.Plan.{Plan}
use Rattle.text_output.specs.Output.{StageKind}
use Rattle.row_output.specs.Asked.{Asked}
use Rattle.row_output.specs.FileRows.{OnRefused}
use Rattle.row_output.specs.Kept.{HasRows, asked_of}
use Rattle.row_output.specs.Rows.{IsRefused, Stops}
use Rattle.row_output.proofs.Stopping.{rows_stop}
use Rattle.row_output.specs.declared.fault.OutputFault.{OutputFault}
use Rattle.row_output.specs.declared.fault.OutputFault.TheVariants as O
use Rattle.row_output.specs.declared.kept.RowOutput.{RowOutput}
use Rattle.row_steps.specs.Grouped.{records_of, group_output, grouped_output}
use Rattle.query_run.proofs.WholeRun.{told_map}
use Rattle.row_steps.specs.Gathered.{GatheredAt, Gathers}
use Rattle.query_types.specs.declared.plans.GroupShape.{GroupShape}
use Rattle.row_steps.specs.Rows.{OnGroups, Rows, PutsRows, StopsBy}

-- these are the groups of a table
abbrev pub AreGroups : Table → List GroupRow → Type 0
AreGroups table groups = (width : ℕ) (kinds : List AggKind) (rollup : Bool) (records : List Record) → Holds width kinds rollup table records → groups ≡ grouped width kinds rollup records

on_groups : (plan : Plan) (table : Table) (groups : List GroupRow) (P : Rows → Type 0) → AreGroups table groups → P (group_output plan groups) → OnGroups plan table P
on_groups plan table groups P are p = λ width kinds rollup records holds. subst (λ (gs : List GroupRow). P (group_output plan gs)) (are width kinds rollup records holds) p

module _ {S : Type 0} (kind : StageKind S) (plan : Plan) (table : Table) (groups : List GroupRow) (o : RowOutput) (u : S) where
  -- all rows of groups were put, and what the end makes of them
  pub ends_with : (Out : Asked → S → Rows → Type 0) (last : RowOutput) (v : S) → AreGroups table groups → PutsRows kind (group_output plan groups) o u last v → ((start : S) (rows : Rows) → HasRows kind last start rows v → Out (asked_of last) start rows)
      → (start : S) → HasRows kind o start [] u → OnGroups plan table (Out (asked_of o) start)
  ends_with Out last v are puts end start has =
      on_groups plan table groups (Out (asked_of o) start) are
      (subst (λ (asked : Asked). Out asked start (group_output plan groups)) puts.asked (end start (group_output plan groups) (puts.has start [] has)))

  -- it stopped within them
  pub stops_within : (fault : OutputFault) (v : S) → AreGroups table groups → StopsBy kind (group_output plan groups) o u fault v → (start : S) → HasRows kind o start [] u → OnGroups plan table (λ out. Stops kind (asked_of o) start out v)
  stops_within fault v are stops start has =
      let Of : Rows → Type 0 = λ out. Stops kind (asked_of o) start out v in
      on_groups plan table groups Of are (subst Of (append-nil (group_output plan groups)) (stops.stop start [] [] has))

  pub refused_within : (fault : OutputFault) (v : S) → AreGroups table groups → StopsBy kind (group_output plan groups) o u fault v
      → OnRefused (λ why. (start : S) → HasRows kind o start [] u → OnGroups plan table (λ out. IsRefused (asked_of o) out why)) fault
  refused_within (O.Refused why) v are stops = λ start has.
      let Of : Rows → Type 0 = λ out. IsRefused (asked_of o) out why in
      on_groups plan table groups Of are (subst Of (append-nil (group_output plan groups)) (stops.refused start [] [] has))
  refused_within O.Failed v are stops = tt
  refused_within O.Memory v are stops = tt

-- it stopped before any row
pub stops_before : {S : Type 0} (kind : StageKind S) (plan : Plan) (table : Table) (o : RowOutput) (start v : S) → HasRows kind o start [] v → OnGroups plan table (λ out. Stops kind (asked_of o) start out v)
stops_before kind plan table o start v has = λ width kinds rollup records holds. rows_stop kind o start [] (group_output plan (grouped width kinds rollup records)) v has

-- why the end was refused
pub refused_end : {S : Type 0} (kind : StageKind S) (plan : Plan) (table : Table) (groups : List GroupRow) (o last : RowOutput) (u v : S) (fault : OutputFault) → AreGroups table groups → PutsRows kind (group_output plan groups) o u last v
    → OnRefused (λ why. (start : S) (rows : Rows) → HasRows kind last start rows v → IsRefused (asked_of last) rows why) fault
    → OnRefused (λ why. (start : S) → HasRows kind o start [] u → OnGroups plan table (λ out. IsRefused (asked_of o) out why)) fault
refused_end kind plan table groups o last u v (O.Refused why) are puts end = ends_with kind plan table groups o u (λ asked start out. IsRefused asked out why) last v are puts end
refused_end kind plan table groups o last u v O.Failed are puts end = tt
refused_end kind plan table groups o last u v O.Memory are puts end = tt

-- what the end makes of the groups that were gathered, of the records that were found
pub of_gathered : {P O : Type 0} (picks : P → Found → Option (List Value)) (Out : O → List (List Value) → Type 0) (old new : GatheredAt P ReadyPlan O) (keys : ℕ) (kinds : List AggKind) (rollup : Bool) (picker : P) (plan : ReadyPlan) (founds : List Found)
    → Gathers picks old founds new → Holds keys kinds rollup old.groups [] → old.picker ≡ picker → old.plan ≡ plan
    → ((records : List Record) → Holds keys kinds rollup new.groups records → Out new.out (group_output new.plan.plan (grouped keys kinds rollup records)))
    → Out old.out (grouped_output keys kinds rollup (picks picker) plan.plan founds)
of_gathered {P} {O} picks Out old new keys kinds rollup picker plan founds gathers none same_picker same_plan step =
    let records : List Record = records_of old.groups.width (picks old.picker) founds in
    let same : records ≡ records_of keys (picks picker) founds =
    ap (λ (n : ℕ). records_of n (picks old.picker) founds) none.wide ∙ ap (λ (p : P). records_of keys (picks p) founds) same_picker in
    let rows : group_output new.plan.plan (grouped keys kinds rollup records) ≡ grouped_output keys kinds rollup (picks picker) plan.plan founds =
    ap (λ (p : ReadyPlan). group_output p.plan (grouped keys kinds rollup records)) (gathers.plan ∙ same_plan)
    ∙ ap (λ (rs : List Record). group_output plan.plan (grouped keys kinds rollup rs)) same in
    subst (λ (o : O). Out o (grouped_output keys kinds rollup (picks picker) plan.plan founds)) gathers.out
    (subst (Out new.out) rows (step records (gathers.grown keys kinds rollup [] none)))

-- over spans of logs, by a taker that gathers groups
module _ {P T O : Type 0} (picks : P → Found → Option (List Value)) (at : T → O → GatheredAt P ReadyPlan O) (asks : GroupShape) (picker : P) (plan : ReadyPlan) (format : Format) (waits : Bool) (told : Option Folder) (spans : List Span) (old new : Page T) (u v : O) where
  abbrev rows_in : Folder → Rows
  rows_in folder = grouped_output asks.keys asks.aggregates asks.rollup (picks picker) plan.plan (spans_found format waits folder spans)

  abbrev Kept : Folder → Type 0
  Kept folder = AreKept format waits spans folder

  abbrev Took : Folder → Type 0
  Took folder = TakesSpans (λ a s xs b t. Gathers picks (at a s) (rows_met xs) (at b t)) format waits folder spans old new u v

  -- what the end makes of the groups of all rows
  pub spans_end : (Has : O → Type 0) (Out : Asked → Rows → Type 0) (first asked : Asked) → first ≡ asked → Holds asks.keys asks.aggregates asks.rollup (at old.taker u).groups [] → (at old.taker u).picker ≡ picker → (at old.taker u).plan ≡ plan
      → Told told (λ folder. Kept folder → Took folder) → Has (at old.taker u).out → (Has (at new.taker v).out → OnGroups (at new.taker v).plan.plan (at new.taker v).groups (Out first)) → Told told (λ folder. Kept folder → Out asked (rows_in folder))
  spans_end Has Out first asked same none same_picker same_plan all has end = told_map told (λ folder. Kept folder → Took folder) (λ folder. Kept folder → Out asked (rows_in folder)) (λ folder took kept.
      subst (λ (a : Asked). Out a (rows_in folder)) same
      (of_gathered picks (λ s out. Has s → Out first out) (at old.taker u) (at new.taker v) asks.keys asks.aggregates asks.rollup picker plan (spans_found format waits folder spans)
      (subst (λ (t : List Found). Gathers picks (at old.taker u) t (at new.taker v)) (rows_met_spans format waits folder spans) ((took kept).done)) none same_picker same_plan
      (λ records holds now. end now asks.keys asks.aggregates asks.rollup records holds) has)) all
