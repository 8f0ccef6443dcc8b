use Rattle.std.proofs.Common.{FitsSigned, w64}
use Rattle.std.proofs.lemmas.Int.{to_z-of_z}
use Rattle.query_tree.specs.Views.{query_of}
use Rattle.query_types.specs.Planned.{plan_of, planned_in}
use Rattle.execution.specs.Fitting.{planned_query}
use Rattle.execution.specs.Plans.{query_plan}
use Rattle.execution.proofs.QueryPlans.{planned_rows, same_fault, unplanned_rows}
use Rattle.execution.proofs.planning.plan_of_rows.Goals as goal

pub returns-in-Ok-clause-plan : goal.returns-in-Ok-clause-plan
returns-in-Ok-clause-plan c =
    let range : FitsSigned w64 c.args.moment = c.ranges.moment in
    planned_rows c.args.table.now c.args.moment (query_of c.args.query.now) (planned_in c.in-Ok.plan) c.requires.built (simp to_z-of_z at c.in-Ok.ensures.plan)

pub returns-in-Err-clause-plan : goal.returns-in-Err-clause-plan
returns-in-Err-clause-plan c =
    let range : FitsSigned w64 c.args.moment = c.ranges.moment in
    let table = c.args.table.now in
    let q = query_of c.args.query.now in
    same_fault planned_in planned_query (plan_of table c.args.moment q) (query_plan table c.args.moment q) c.in-Err.fault (λ fault is. unplanned_rows table c.args.moment q fault c.requires.built is) (simp to_z-of_z at c.in-Err.ensures.plan)
