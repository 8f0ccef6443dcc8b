-- The plan of a grouped query over a table, or the first fault of its clauses.
use Rattle.std.specs.Prelude.{ℤ, Bool, length, if◌then◌else◌, Result, Ok, Err}
use Rattle.grammar.specs.Trees.{Parts, Query}
use Rattle.grammar.specs.Trees.{Query as query}
use Rattle.lp_values.specs.declared.part.Part.TheVariants.{Both}
use Rattle.lp_values.specs.declared.value.Value.{Value}
use Rattle.slot_reading.specs.Stamps.{stamp_value}
use Rattle.query_types.specs.declared.fault.TypeFault.{TypeFault}
use Rattle.query_types.specs.declared.fault.TypeFault.TheVariants as F
use Rattle.query_types.specs.declared.table.TableColumns.{TableColumns}
use Rattle.query_types.specs.Meanings.{followed}
use Rattle.query_types.specs.Planned.{has_too_few, place_in}
use Rattle.senses.specs.Clauses.{Clauses}
pub use Rattle.seating.specs.declared.plan.GroupPlan.{GroupPlan}
pub use Rattle.seating.specs.GroupPlans.{Grouped, grouped_in}
use Rattle.seating.specs.GroupPlans.{groups_of}
use Rattle.judging.specs.Asked.{is_grouped}
use Rattle.judging.specs.Judged.{judged}
use Rattle.group_planning.specs.Clauses.{all_named, clauses_sensed, using_named}

-- behind the first pass over the clauses the second, then INTO: the first fault, or the plan
abbrev pub groups_behind : Bool → TableColumns → Value → Parts → Clauses → Result Grouped TypeFault
groups_behind grouped table moment parts clauses = followed (judged grouped parts clauses) (λ order.
    if has_too_few (length clauses.items) parts.into then Err (F.TooFewColumns (place_in parts.into)) else Ok (groups_of table moment parts clauses order))

abbrev pub groups_of_parts : Bool → TableColumns → Value → Parts → Result Grouped TypeFault
groups_of_parts grouped table moment parts = followed (clauses_sensed table moment parts (using_named table moment parts) (all_named table moment parts) grouped) (groups_behind grouped table moment parts)

-- The plan of a query in a run of this moment, or its first fault. HAVING and GROUPING without groups are faults too. A query that isn't
-- grouped and has neither is query_types' to plan: the one group of no keys that stands here for it is nothing that it asks for.
abbrev pub group_plan_of : TableColumns → ℤ → Query → Result Grouped TypeFault
group_plan_of table moment (query.query parts subqueries) = groups_of_parts (is_grouped (query.query parts subqueries)) table (stamp_value Both moment) parts
