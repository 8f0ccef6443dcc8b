-- How many values a plan's rows have.
use Rattle.std.specs.Prelude.{◌≡◌, Bool, true, false, List, length, [], Option, Some, None}
use Rattle.std.proofs.Common.{ap, sym, ◌∙◌}
use Rattle.std.proofs.lemmas.List.{length-map}
use Rattle.lp_values.specs.declared.value.Value.{Value}
use Rattle.query_types.specs.Terms.{Term}
use Rattle.query_types.specs.Conditions.{Filter}
use Rattle.row_engine.specs.Rows.{keeps, selected_in, value_in}
use Rattle.slot_reading.specs.declared.reading.SlotReading.{SlotReading}
use Rattle.plan_rows.specs.Picks.{if_kept, plan_picks, table_row}
use Rattle.row_steps.specs.Grouped.{HasWidth}

abbrev row_held : Option (List Value) → List Value
row_held None = []
row_held (Some row) = row

-- what SELECT takes of a row has a value for each item
pub kept_width : (kept : Bool) (row : List Value) (items : List Term) (out : List Value) → if_kept kept (selected_in row items) ≡ Some out → length out ≡ length items
kept_width true row items out e = ap length (sym (ap row_held e)) ∙ length-map items (value_in row)
kept_width false row items out e = absurd cc

-- a plan's rows have a value for each item
pub plan_width : (readings : List SlotReading) (items : List Term) (condition : Option Filter) → HasWidth (plan_picks readings items condition) (length items)
plan_width readings items condition = λ found row e. kept_width (keeps condition (table_row readings found)) (table_row readings found) items row e
