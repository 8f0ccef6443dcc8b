-- The plan of a grouped query over a table, from what its clauses mean.
use Rattle.std.specs.Prelude.{ℕ, Bool, List, [], ◌++◌, length, map, Option, option_map}
use Rattle.grammar.specs.Trees.{Parts}
use Rattle.lp_values.specs.declared.group.AggKind.{AggKind}
use Rattle.lp_values.specs.declared.value.Value.{Value}
use Rattle.query_types.specs.declared.table.TableColumns.{TableColumns}
use Rattle.query_types.specs.Conditions.{Filter}
use Rattle.query_types.specs.Planned.{Planned, planned_in, names_of, used_from, with_aliases}
use Rattle.query_types.specs.Terms.{Term}
use Rattle.senses.specs.Senses.{Sense, kind_sensed}
use Rattle.senses.specs.Clauses.{Clauses}
use Rattle.seating.specs.declared.plan.GroupPlan.{GroupPlan}
use Rattle.seating.specs.Gathered.{aggregates_of, seated, seated_in}

-- the plan of a grouped query: what is asked of each row of the table, its keys and behind them the arguments of the aggregates; how
-- many keys there are, the aggregates, and whether shorter lists of keys have groups too; and what is asked of each row of a group
pub record Grouped : Type 0 where
  pub rows : Planned
  pub keys : ℕ
  pub aggregates : List AggKind
  pub rollup : Bool
  pub groups : Planned

-- what a plan holds
abbrev pub grouped_in : GroupPlan → Grouped
grouped_in plan = record { rows = planned_in plan.rows; keys = plan.shape.keys; aggregates = plan.shape.aggregates; rollup = plan.shape.rollup; groups = planned_in plan.groups }

-- the keys and the arguments over a table's row
abbrev pub row_items : Clauses → List Term
row_items clauses = map (seated [] []) clauses.keys ++ map (λ one. seated [] [] one.of) (aggregates_of clauses)

abbrev pub row_condition : Clauses → Option Filter
row_condition clauses = option_map (seated_in [] []) clauses.condition

abbrev pub rows_with : TableColumns → List Sense → List Term → Option Filter → Planned
rows_with table using items condition = record {
  items = items;
  names = [];
  kinds = [];
  condition = condition;
  used = used_from 0 table.columns (map (seated [] []) using) items condition;
  order = [];
}

-- WHERE, keys and arguments
abbrev pub rows_planned : TableColumns → Clauses → Planned
rows_planned table clauses = rows_with table clauses.using (row_items clauses) (row_condition clauses)

abbrev pub output_names : TableColumns → Value → Parts → List (List ℕ)
output_names table moment parts = names_of table (with_aliases table moment (with_aliases table moment [] parts.aliases) parts.items) parts.items

-- HAVING and SELECT over the row of a group
abbrev pub groups_planned : TableColumns → Clauses → List (List ℕ) → List ℕ → Planned
groups_planned table clauses names order = record {
  items = map (seated clauses.keys (aggregates_of clauses)) clauses.items;
  names = names;
  kinds = map (kind_sensed table.columns) clauses.items;
  condition = option_map (seated_in clauses.keys (aggregates_of clauses)) clauses.having;
  used = [];
  order = order;
}

abbrev pub groups_of : TableColumns → Value → Parts → Clauses → List ℕ → Grouped
groups_of table moment parts clauses order = record {
  rows = rows_planned table clauses;
  keys = length clauses.keys;
  aggregates = map (λ one. one.how) (aggregates_of clauses);
  rollup = parts.rollup;
  groups = groups_planned table clauses (output_names table moment parts) order;
}
