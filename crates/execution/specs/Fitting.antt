-- A plan that fits the table of its format.
use Rattle.std.specs.Prelude.{◌≡◌, ◌+◌, length, option_map}
use Rattle.group_planning.specs.Groups.{GroupPlan, grouped_in}
use Rattle.input_tables.specs.declared.format.TableFormat.{TableFormat}
use Rattle.input_tables.specs.Tables.{columns_of}
use Rattle.query_types.specs.Conditions.{filter_of}
use Rattle.query_types.specs.declared.plans.Plan.{Plan}
use Rattle.query_types.specs.Planned.{Covers, planned_in}
use Rattle.execution.specs.declared.planning.QueryPlan.{QueryPlan}
use Rattle.execution.specs.declared.planning.QueryPlan.TheVariants as Q
use Rattle.execution.specs.Plans.{PlannedQuery, of_groups, of_rows}

-- what a plan holds
abbrev pub planned_query : QueryPlan → PlannedQuery
planned_query (Q.Rows plan) = of_rows (planned_in plan)
planned_query (Q.Groups plan) = of_groups (grouped_in plan)

-- it knows of each column of the table whether it is used
pub record FitsTable (format : TableFormat) (plan : Plan) : Type 0 where
  pub covers : Covers plan.used plan.items (option_map filter_of plan.condition)
  pub size : length plan.used ≡ length (columns_of format)

-- its rows have a value for each key and each aggregate
pub record FitsGroups (format : TableFormat) (plan : GroupPlan) : Type 0 where
  pub rows : FitsTable format plan.rows
  pub wide : length plan.rows.items ≡ plan.shape.keys + length plan.shape.aggregates
  pub unused : Covers plan.groups.used plan.groups.items (option_map filter_of plan.groups.condition)

abbrev pub Fits : TableFormat → QueryPlan → Type 0
Fits format (Q.Rows plan) = FitsTable format plan
Fits format (Q.Groups plan) = FitsGroups format plan
