use Rattle.std.proofs.Common.{FitsSigned, w64}
use Rattle.std.proofs.lemmas.Int.{to_z-of_z}
use Rattle.query_tree.specs.Views.{query_of}
use Rattle.group_planning.specs.Groups.{group_plan_of, grouped_in}
use Rattle.execution.specs.Fitting.{planned_query}
use Rattle.execution.specs.Plans.{query_plan}
use Rattle.execution.proofs.QueryPlans.{planned_groups, same_fault, unplanned_groups}
use Rattle.execution.proofs.planning.plan_of_groups.Goals as goal

pub returns-in-Ok-clause-plan : goal.returns-in-Ok-clause-plan
returns-in-Ok-clause-plan c =
    let range : FitsSigned w64 c.args.moment = c.ranges.moment in
    planned_groups c.args.table.now c.args.moment (query_of c.args.query.now) (grouped_in c.in-Ok.plan) c.requires.built (simp to_z-of_z at c.in-Ok.ensures.plan)

pub returns-in-Err-clause-plan : goal.returns-in-Err-clause-plan
returns-in-Err-clause-plan c =
    let range : FitsSigned w64 c.args.moment = c.ranges.moment in
    let table = c.args.table.now in
    let q = query_of c.args.query.now in
    same_fault grouped_in planned_query (group_plan_of table c.args.moment q) (query_plan table c.args.moment q) c.in-Err.fault (λ fault is. unplanned_groups table c.args.moment q fault c.requires.built is) (simp to_z-of_z at c.in-Err.ensures.plan)
