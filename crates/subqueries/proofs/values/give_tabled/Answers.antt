use Rattle.std.proofs.Common.{◌≡◌, Ok, subst, FitsSigned, w64}
use Rattle.std.proofs.lemmas.Int.{to_z-of_z}
use Rattle.group_planning.specs.Subquery.{subquery_plan_of}
use Rattle.query_tree.specs.Views.{query_of}
use Rattle.query_types.specs.Planned.{planned_in}
use Rattle.query_types.specs.declared.table.TableColumns.{TableColumns}
use Rattle.subqueries.proofs.Valued.{gives_tabled, typed_tabled}
use Rattle.subqueries.proofs.values.give_tabled.Goals as goal

pub returns-in-Ok-gather_plan-clause-values : goal.returns-in-Ok-gather_plan-clause-values
returns-in-Ok-gather_plan-clause-values g c =
    let range : FitsSigned w64 c.args.moment = c.ranges.moment in
    let q = query_of c.args.query.now in
    let plan = planned_in c.in-Ok-plan_subquery.plan in
    gives_tabled (g.L.LogSource.folder c.gather_plan.new.logs) c.args.format c.args.waits c.args.keep c.args.pattern.now c.args.moment q plan (record { kind = c.kind_first-kind.result; values = c.in-Ok-gather_plan.given.values; kept = c.in-Ok-gather_plan.given.kept; bad = c.in-Ok-gather_plan.given.bad }) c.as_slice.result.now c.args.spans.now c.as_slice.ensures
    (subst (λ (table : TableColumns). subquery_plan_of table c.args.moment q ≡ Ok plan) c.in-Ok.ensures (simp to_z-of_z at c.in-Ok-plan_subquery.ensures.plan)) c.kind_first-kind.ensures c.in-Ok-gather_plan.ensures.values c.in-Ok-gather_plan.ensures.kept c.in-Ok-gather_plan.ensures.bad

pub returns-clause-typed : goal.returns-clause-typed
returns-clause-typed g c =
    let range : FitsSigned w64 c.args.moment = c.ranges.moment in
    let q = query_of c.args.query.now in
    let plan = planned_in c.in-Ok-plan_subquery.plan in
    typed_tabled c.args.format c.args.moment q plan c.in-Err-gather_plan.fault
    (subst (λ (table : TableColumns). subquery_plan_of table c.args.moment q ≡ Ok plan) c.in-Ok.ensures (simp to_z-of_z at c.in-Ok-plan_subquery.ensures.plan))
