-- A run of a plan, told of the readings and the format that it was asked for.
use Rattle.std.proofs.Common.{◌≡◌, Bool, List, Option, Some, None, subst}
use Rattle.lp_model.specs.Outside.{Folder, Told}
use Rattle.lp_model.specs.Reading.{Format}
use Rattle.log_reading.specs.declared.span.Span.{Span}
use Rattle.log_reading.specs.Spans.{AreKept}
use Rattle.lp_values.specs.declared.value.Value.{Value}
use Rattle.slot_reading.specs.declared.reading.SlotReading.{SlotReading}
use Rattle.query_types.specs.Planned.{Planned, planned_in}
use Rattle.query_types.specs.declared.plans.Plan.{Plan}
use Rattle.plan_run.specs.Rows.{plan_rows}

-- a fact of the rows that a plan makes of spans, whatever the logs hold
abbrev pub OnRows : Option Folder → Bool → List Span → (List (List Value) → Type 0) → Format → List SlotReading → Planned → Type 0
OnRows told waits spans P format readings plan = Told told (λ folder. AreKept format waits spans folder → P (plan_rows readings plan format waits folder spans))

-- whatever is so of all rows
pub told_all : (told : Option Folder) (waits : Bool) (spans : List Span) (P : List (List Value) → Type 0) (format : Format) (readings : List SlotReading) (plan : Planned) → ((rows : List (List Value)) → P rows) → OnRows told waits spans P format readings plan
told_all None waits spans P format readings plan all = tt
told_all (Some folder) waits spans P format readings plan all = λ kept. all (plan_rows readings plan format waits folder spans)

-- what a picker made of a plan, and a reader of a format, stand for
pub as_asked : (Of : Format → List SlotReading → Planned → Type 0) (read format : Format) (made readings : List SlotReading) (ready plan : Plan) → read ≡ format → made ≡ readings → ready ≡ plan → Of read made (planned_in ready) → Of format readings (planned_in plan)
as_asked Of read format made readings ready plan reads makes plans of =
    let by_readings = subst (λ (readings : List SlotReading). Of read readings (planned_in ready)) makes of in
    let by_plan = subst (λ (plan : Plan). Of read readings (planned_in plan)) plans by_readings in
    subst (λ (format : Format). Of format readings (planned_in plan)) reads by_plan
