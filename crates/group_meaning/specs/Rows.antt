-- The rows that a grouped plan makes of records.
use Rattle.std.specs.Prelude.{List, Option, map, filter}
use Rattle.lp_values.specs.declared.group.GroupRow.{GroupRow}
use Rattle.lp_values.specs.declared.value.Value.{Value}
use Rattle.log_reading.specs.Found.{Found}
use Rattle.query_types.specs.Planned.{Planned}
use Rattle.row_engine.specs.Rows.{keeps, selected_in}
use Rattle.row_steps.specs.Grouped.{found_groups, group_values}
use Rattle.group_planning.specs.Groups.{Grouped}

-- what HAVING and SELECT make of groups: of each that HAVING keeps, what SELECT takes of its row
abbrev pub asked_of_groups : Planned → List GroupRow → List (List Value)
asked_of_groups asked groups = map (λ row. selected_in row asked.items) (filter (keeps asked.condition) (map group_values groups))

-- the output rows of a grouped plan over records: of the groups of the rows that are picked of them
abbrev pub rows_of_groups : Grouped → (Found → Option (List Value)) → List Found → List (List Value)
rows_of_groups plan picks founds = asked_of_groups plan.groups (found_groups plan.keys plan.aggregates plan.rollup picks founds)
