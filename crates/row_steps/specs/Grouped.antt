-- A grouped query: of records groups, and of groups output rows.
use Rattle.std.specs.Prelude.{◌≡◌, ◌-◌, ℕ, Bool, List, ◌++◌, map, filter, take, drop, length, replicate, pos, Option, Some, option_map}
use Rattle.lp_values.specs.declared.value.Value.{Value}
use Rattle.lp_values.specs.declared.value.Value.TheVariants.{Int}
use Rattle.lp_values.specs.declared.group.AggKind.{AggKind}
use Rattle.lp_values.specs.declared.group.GroupRow.{GroupRow}
use Rattle.log_reading.specs.Found.{Found}
use Rattle.query_types.specs.Conditions.{filter_of}
use Rattle.query_types.specs.declared.plans.Plan.{Plan}
use Rattle.row_engine.specs.Rows.{keeps, selected_in}
use Rattle.query_run.specs.Rows.{picked}
use Rattle.group_rollup.specs.Groups.{Record, grouped}

-- each row that is picked has so many values
abbrev pub HasWidth : (Found → Option (List Value)) → ℕ → Type 0
HasWidth picks width = (found : Found) (row : List Value) → picks found ≡ Some row → length row ≡ width

-- a row in two: so many keys, and the arguments behind them
abbrev pub cut : ℕ → List Value → Record
cut keys row = (take keys row, drop keys row)

-- the records that groups are made of: the rows that are picked, each in two
abbrev pub records_of : ℕ → (Found → Option (List Value)) → List Found → List Record
records_of keys picks founds = map (cut keys) (picked picks founds)

-- for each key whether it is rolled up: 0 where it stands, 1 where it is dropped, as it is from the end
abbrev pub marks : ℕ → ℕ → List Value
marks keys dropped = replicate (keys - dropped) (Int (pos 0)) ++ replicate (keys - (keys - dropped)) (Int (pos 1))

-- the row of a group: its keys, its aggregates, and for each key whether it is rolled up
abbrev pub group_values : GroupRow → List Value
group_values group = group.keys ++ group.aggregates ++ marks (length group.keys) group.dropped

-- the output rows of groups by a plan over their rows: its condition is HAVING, its items are SELECT
abbrev pub group_output : Plan → List GroupRow → List (List Value)
group_output plan groups = map (λ row. selected_in row plan.items) (filter (keeps (option_map filter_of plan.condition)) (map group_values groups))

-- the groups of what is found
abbrev pub found_groups : ℕ → List AggKind → Bool → (Found → Option (List Value)) → List Found → List GroupRow
found_groups keys aggregates rollup picks founds = grouped keys aggregates rollup (records_of keys picks founds)

-- the output rows of a grouped query
abbrev pub grouped_output : ℕ → List AggKind → Bool → (Found → Option (List Value)) → Plan → List Found → List (List Value)
grouped_output keys aggregates rollup picks plan founds = group_output plan (found_groups keys aggregates rollup picks founds)
