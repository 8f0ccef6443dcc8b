-- The rows that a plan makes of spans.
use Rattle.std.specs.Prelude.{Bool, List}
use Rattle.lp_model.specs.Outside.{Folder}
use Rattle.lp_model.specs.Reading.{Format}
use Rattle.lp_values.specs.declared.value.Value.{Value}
use Rattle.log_reading.specs.declared.span.Span.{Span}
use Rattle.log_reading.specs.Spans.{spans_found}
use Rattle.query_run.specs.Rows.{picked}
use Rattle.query_types.specs.Planned.{Planned}
use Rattle.slot_reading.specs.declared.reading.SlotReading.{SlotReading}
use Rattle.plan_rows.specs.Picks.{plan_picks}

-- the output rows of a plan over spans
abbrev pub plan_rows : List SlotReading → Planned → Format → Bool → Folder → List Span → List (List Value)
plan_rows readings plan format waits folder spans = picked (plan_picks readings plan.items plan.condition) (spans_found format waits folder spans)
