-- The plan of a query over a table: one over its rows, or one over groups of them.
use Rattle.std.specs.Prelude.{ℤ, List, if◌then◌else◌, Option, Result, Ok}
use Rattle.grammar.specs.Trees.{Query}
use Rattle.lp_time.specs.declared.piece.Piece.{Piece}
use Rattle.lp_values.specs.declared.value.Value.{Value}
use Rattle.column_kinds.specs.declared.judging.Judged.{Judged}
use Rattle.group_planning.specs.Groups.{Grouped, group_plan_of}
use Rattle.group_meaning.specs.Rows.{rows_of_groups}
use Rattle.input_tables.specs.declared.format.TableFormat.{TableFormat}
use Rattle.input_tables.specs.Tables.{readings_of}
use Rattle.log_reading.specs.Found.{Found}
use Rattle.plan_rows.specs.Picks.{plan_picks}
use Rattle.query_run.specs.Rows.{picked}
use Rattle.query_types.specs.Built.{is_built}
use Rattle.query_types.specs.declared.fault.TypeFault.{TypeFault}
use Rattle.query_types.specs.declared.table.TableColumns.{TableColumns}
use Rattle.query_types.specs.Meanings.{followed}
use Rattle.query_types.specs.Planned.{Planned, plan_of}
use Rattle.row_output.specs.Asked.{Asked, Files, RowsText}
use Rattle.sampled_run.specs.Finishes.{asked_by}
use Rattle.sampled_table.specs.Picks.{sampled_picks}

pub data PlannedQuery : Type 0 where
  of_rows : Planned → PlannedQuery
  of_groups : Grouped → PlannedQuery

-- the plan of a query in a run of this moment, or its first fault: over groups where it has any, an aggregate, GROUPING or HAVING
abbrev pub query_plan : TableColumns → ℤ → Query → Result PlannedQuery TypeFault
query_plan table moment q = if is_built q then followed (plan_of table moment q) (λ plan. Ok (of_rows plan)) else followed (group_plan_of table moment q) (λ plan. Ok (of_groups plan))

-- the plan that makes the output rows: over groups, that of a group's row
abbrev pub last_of : PlannedQuery → Planned
last_of (of_rows plan) = plan
last_of (of_groups plan) = plan.groups

-- the output rows of records, by what a plan picks of each
abbrev pub rows_by : (Planned → Found → Option (List Value)) → PlannedQuery → List Found → List (List Value)
rows_by picks (of_rows plan) founds = picked (picks plan) founds
rows_by picks (of_groups plan) founds = rows_of_groups plan (picks plan.rows) founds

-- those of records that are read in a format with a table
abbrev pub table_rows : TableFormat → PlannedQuery → List Found → List (List Value)
table_rows format = rows_by (λ plan. plan_picks (readings_of format) plan.items plan.condition)

-- and of records over columns that they told
abbrev pub told_rows : List Piece → Judged → PlannedQuery → List Found → List (List Value)
told_rows pattern told = rows_by (λ plan. sampled_picks pattern told plan.items plan.condition)

-- what becomes of the rows of a plan
abbrev pub asked_for : Option Files → RowsText → Query → PlannedQuery → Asked
asked_for files text q plan = asked_by files text q (last_of plan)
