-- A run of a grouped plan, told of the readings and the format that it was asked for.
use Rattle.std.proofs.Common.{◌≡◌, Bool, List, Option, Some, None, subst}
use Rattle.lp_model.specs.Outside.{Folder, Told}
use Rattle.lp_model.specs.Reading.{Format}
use Rattle.log_reading.specs.declared.span.Span.{Span}
use Rattle.log_reading.specs.Spans.{AreKept}
use Rattle.lp_values.specs.declared.value.Value.{Value}
use Rattle.slot_reading.specs.declared.reading.SlotReading.{SlotReading}
use Rattle.query_types.specs.Planned.{planned_in}
use Rattle.query_types.specs.declared.plans.GroupShape.{GroupShape}
use Rattle.query_types.specs.declared.plans.Plan.{Plan}
use Rattle.group_planning.specs.Groups.{Grouped}
use Rattle.group_run.specs.Rows.{group_rows}

-- a fact of the rows that a grouped plan makes of spans, whatever the logs hold
abbrev pub OnGroupRows : Option Folder → Bool → List Span → (List (List Value) → Type 0) → Format → List SlotReading → Grouped → Type 0
OnGroupRows told waits spans P format readings plan = Told told (λ folder. AreKept format waits spans folder → P (group_rows readings plan format waits folder spans))

-- whatever is so of all rows
pub told_of_all : (told : Option Folder) (waits : Bool) (spans : List Span) (P : List (List Value) → Type 0) (format : Format) (readings : List SlotReading) (plan : Grouped) → ((rows : List (List Value)) → P rows) → OnGroupRows told waits spans P format readings plan
told_of_all None waits spans P format readings plan all = tt
told_of_all (Some folder) waits spans P format readings plan all = λ kept. all (group_rows readings plan format waits folder spans)

-- what is asked of rows, which groups, and what is asked of these
abbrev pub grouped_with : GroupShape → Plan → Plan → Grouped
grouped_with shape rows groups = record { rows = planned_in rows; keys = shape.keys; aggregates = shape.aggregates; rollup = shape.rollup; groups = planned_in groups }

-- what was made of a grouped plan, and a reader of a format, stand for
pub as_asked : (Of : Format → List SlotReading → Grouped → Type 0) (shape : GroupShape) (read format : Format) (made readings : List SlotReading) (picked rows ready groups : Plan)
    → read ≡ format → made ≡ readings → picked ≡ rows → ready ≡ groups → Of read made (grouped_with shape picked ready) → Of format readings (grouped_with shape rows groups)
as_asked Of shape read format made readings picked rows ready groups reads makes picks plans of =
    let by_readings = subst (λ (readings : List SlotReading). Of read readings (grouped_with shape picked ready)) makes of in
    let by_rows = subst (λ (rows : Plan). Of read readings (grouped_with shape rows ready)) picks by_readings in
    let by_groups = subst (λ (groups : Plan). Of read readings (grouped_with shape rows groups)) plans by_rows in
    subst (λ (format : Format). Of format readings (grouped_with shape rows groups)) reads by_groups
