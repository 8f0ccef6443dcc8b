use Rattle.std.proofs.Common.{◌≡◌, ◌⊎◌, ℕ, List, [], length, IfErr, sym, subst}
use Rattle.std.proofs.lemmas.Result.{IfErr-weaker}
use Rattle.lp_model.specs.Outside.{Folder, Told}
use Rattle.log_reading.specs.Page.{IsWithin}
use Rattle.log_reading.specs.Spans.{AreKept, BadLine, spans_bad, spans_found}
use Rattle.query_run.specs.Faults.{OnBad, OnRefusedOutput}
use Rattle.query_run.proofs.Reasons.{bad_so, refused_so}
use Rattle.query_types.specs.Planned.{planned_in}
use Rattle.group_planning.specs.Groups.{grouped_in}
use Rattle.input_tables.specs.Tables.{lines_of}
use Rattle.row_output.specs.Kept.{asked_of}
use Rattle.row_output.specs.declared.fault.Refused.{Refused}
use Rattle.execution.specs.Carried.{BadByPlan, UnplacedByPlan}
use Rattle.execution.specs.Fitting.{planned_query}
use Rattle.execution.specs.declared.planning.QueryPlan.{QueryPlan}
use Rattle.execution.proofs.CarriedOut.{bad_with, groups_bad, groups_unplaced, refused_with, rows_bad, rows_unplaced}
use Rattle.execution.proofs.carrying.carry_out.Goals as goal

pub returns-in-Rows-clause-in_turn : goal.returns-in-Rows-clause-in_turn
returns-in-Rows-clause-in_turn g c =
    let told = g.L.LogSource.folder c.run_plan.new.logs in
    let Of : QueryPlan → Type 0 = λ plan. IfErr c.run_plan.result (OnRefusedOutput (λ why. Told told (λ folder. AreKept (lines_of c.args.format) c.args.waits c.args.spans.now folder → UnplacedByPlan c.args.format c.args.waits (asked_of c.args.output) (planned_query plan) c.args.most_bad c.args.spans.now why folder))) in
    subst Of (sym c.in-Rows.is) (IfErr-weaker c.run_plan.result _ _ (λ fault turn. refused_so fault _ _ (λ why t. rows_unplaced told c.args.format c.args.waits (asked_of c.args.output) c.args.most_bad c.args.spans.now (planned_in c.in-Rows.plan) told why t) turn) c.run_plan.ensures.in_turn)

pub returns-in-Rows-clause-placed : goal.returns-in-Rows-clause-placed
returns-in-Rows-clause-placed g c =
    let told = g.L.LogSource.folder c.run_plan.new.logs in
    let Of : QueryPlan → Type 0 = λ plan. IfErr c.run_plan.result (OnBad (λ line. Told told (λ folder. AreKept (lines_of c.args.format) c.args.waits c.args.spans.now folder → BadByPlan c.args.format c.args.waits (asked_of c.args.output) (planned_query plan) c.args.most_bad c.args.spans.now line folder))) in
    subst Of (sym c.in-Rows.is) (IfErr-weaker c.run_plan.result _ _ (λ fault turn. bad_so fault _ _ (λ line t. rows_bad told c.args.format c.args.waits (asked_of c.args.output) c.args.most_bad c.args.spans.now (planned_in c.in-Rows.plan) told line t) turn) c.run_plan.ensures.placed)

pub returns-in-Groups-clause-in_turn : goal.returns-in-Groups-clause-in_turn
returns-in-Groups-clause-in_turn g c =
    let told = g.L.LogSource.folder c.run_groups.new.logs in
    let Of : QueryPlan → Type 0 = λ plan. IfErr c.run_groups.result (OnRefusedOutput (λ why. Told told (λ folder. AreKept (lines_of c.args.format) c.args.waits c.args.spans.now folder → UnplacedByPlan c.args.format c.args.waits (asked_of c.args.output) (planned_query plan) c.args.most_bad c.args.spans.now why folder))) in
    subst Of (sym c.in-Groups.is) (refused_with c.run_groups.result _ _ _ (λ why all early. groups_unplaced told c.args.format c.args.waits (asked_of c.args.output) c.args.most_bad c.args.spans.now (grouped_in c.in-Groups.plan) told why all early) c.run_groups.ensures.refused c.run_groups.ensures.early)

pub returns-in-Groups-clause-placed : goal.returns-in-Groups-clause-placed
returns-in-Groups-clause-placed g c =
    let told = g.L.LogSource.folder c.run_groups.new.logs in
    let Of : QueryPlan → Type 0 = λ plan. IfErr c.run_groups.result (OnBad (λ line. Told told (λ folder. AreKept (lines_of c.args.format) c.args.waits c.args.spans.now folder → BadByPlan c.args.format c.args.waits (asked_of c.args.output) (planned_query plan) c.args.most_bad c.args.spans.now line folder))) in
    subst Of (sym c.in-Groups.is) (bad_with c.run_groups.result _ _ _ (λ line reached named. groups_bad told c.args.format c.args.waits (asked_of c.args.output) c.args.most_bad c.args.spans.now (grouped_in c.in-Groups.plan) told line reached named) c.run_groups.ensures.reached c.run_groups.ensures.named)
