-- The rows that a grouped plan makes of spans.
use Rattle.std.specs.Prelude.{Bool, List}
use Rattle.lp_model.specs.Outside.{Folder}
use Rattle.lp_model.specs.Reading.{Format}
use Rattle.lp_values.specs.declared.value.Value.{Value}
use Rattle.log_reading.specs.declared.span.Span.{Span}
use Rattle.log_reading.specs.Spans.{spans_found}
use Rattle.slot_reading.specs.declared.reading.SlotReading.{SlotReading}
use Rattle.plan_rows.specs.Picks.{plan_picks}
use Rattle.group_meaning.specs.Rows.{rows_of_groups}
use Rattle.group_planning.specs.Groups.{Grouped}

-- the output rows of a grouped plan over spans
abbrev pub group_rows : List SlotReading → Grouped → Format → Bool → Folder → List Span → List (List Value)
group_rows readings plan format waits folder spans = rows_of_groups plan (plan_picks readings plan.rows.items plan.rows.condition) (spans_found format waits folder spans)
