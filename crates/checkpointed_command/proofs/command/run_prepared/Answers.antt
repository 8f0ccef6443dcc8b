use Rattle.std.proofs.Common.{Ok, Err, FitsSigned, inl, inr, refl, w64, ◌++◌, sym}
use Rattle.std.specs.Prelude.{codes}
use Rattle.std.proofs.lemmas.Int.{to_z-of_z}
use Rattle.query_tree.specs.Views.{query_of}
use Rattle.ledger_model.specs.Inputs.{input_text}
use Rattle.positions.specs.Spanning.{rule_of}
use Rattle.checkpointed_run.specs.Begun.{GivesSpans}
use Rattle.checkpointed_run.specs.Counted.{HasRun}
use Rattle.checkpointed_run.specs.Inputs.{input_for}
use Rattle.checkpointed_run.specs.Refusals.{IsAtDamage, IsWithoutCounts}
use Rattle.checkpointed_run.specs.Texts.{sections_in}
use Rattle.reports.specs.declared.status.Status.TheVariants as S
use Rattle.checkpointed_run.specs.Staged.{request_of}
use Rattle.checkpointed_command.proofs.Answering.{mild_memory}
use Rattle.checkpointed_run.proofs.Rested.{settles_rested}
use Rattle.checkpointed_command.proofs.Files.{known_as, near_as, same_by, step_as}
use Rattle.checkpointed_command.proofs.Stepping.{steps_counted, steps_uncounted, steps_with_refused}
use Rattle.checkpointed_command.proofs.command.run_prepared.Goals as goal

pub returns-in-Err-clause-step : goal.returns-in-Err-clause-step
returns-in-Err-clause-step g c = λ read known earlier since near grow.
    steps_with_refused g.D.Disk.state g.met.D.Disk.counts_now c.args.spec.now c.args.ledger.now (c.args.ledger.now ++ codes ".stage") c.args.moment since (g.L.Logs.folder c.args.logs.now) earlier c.args.disk.now S.Memory
    (request_of c.args.spec.now (query_of c.args.query.now) c.args.text c.args.template.bytes c.args.moment) mild_memory.not_well mild_memory.undamaged
    (λ can. settles_rested g.D.Disk.state g.met.D.Disk.only_now g.met.D.Disk.counts_now c.args.ledger.now (c.args.ledger.now ++ codes ".stage") earlier read c.args.disk.now (near can) known.rests)

pub returns-in-Ok-run_over_ledger-clause-step : goal.returns-in-Ok-run_over_ledger-clause-step
returns-in-Ok-run_over_ledger-clause-step g c = λ read known earlier since near grow.
    let range : FitsSigned w64 c.args.moment = c.ranges.moment in
    let request = request_of c.args.spec.now (query_of c.args.query.now) c.args.text c.args.template.bytes c.args.moment in
    let ledger = c.args.ledger.now in
    let stage = c.args.ledger.now ++ codes ".stage" in
    let files = c.files_of.result in
    let here = near_as (g.D.Disk.state earlier) (g.D.Disk.state read) ledger stage files.ledger files.stage (sym c.files_of.ensures.ledger) (sym c.files_of.ensures.stage) near in
    let step = simp to_z-of_z at c.in-Ok-run_over_ledger.ensures.step in
    steps_counted g.D.Disk.state g.met.D.Disk.counts_now c.args.spec.now ledger stage c.args.moment since (g.L.Logs.folder c.run_over_ledger.new.logs) earlier c.run_over_ledger.new.disk c.in-Ok-run_over_ledger.counts request
    (step_as (Ok c.in-Ok-run_over_ledger.counts) request since (g.L.Logs.folder c.run_over_ledger.new.logs) (g.D.Disk.state earlier) (g.D.Disk.state c.run_over_ledger.new.disk) files.ledger files.stage ledger stage c.files_of.ensures.ledger c.files_of.ensures.stage
    (step read (known_as (g.D.Disk.state read) (g.D.Disk.state c.args.disk.now) c.args.known ledger files.ledger (sym c.files_of.ensures.ledger) known) earlier since here grow))

pub returns-clause-step : goal.returns-clause-step
returns-clause-step g c = λ read known earlier since near grow.
    let range : FitsSigned w64 c.args.moment = c.ranges.moment in
    let request = request_of c.args.spec.now (query_of c.args.query.now) c.args.text c.args.template.bytes c.args.moment in
    let ledger = c.args.ledger.now in
    let stage = c.args.ledger.now ++ codes ".stage" in
    let files = c.files_of.result in
    let here = near_as (g.D.Disk.state earlier) (g.D.Disk.state read) ledger stage files.ledger files.stage (sym c.files_of.ensures.ledger) (sym c.files_of.ensures.stage) near in
    let step = simp to_z-of_z at c.in-Err-run_over_ledger.ensures.step in
    steps_uncounted g.D.Disk.state g.met.D.Disk.counts_now c.args.spec.now ledger stage c.args.moment since (g.L.Logs.folder c.run_over_ledger.new.logs) earlier c.run_over_ledger.new.disk c.in-Err-run_over_ledger.stop c.uncounted.result request c.uncounted.ensures
    (step_as (Err c.in-Err-run_over_ledger.stop) request since (g.L.Logs.folder c.run_over_ledger.new.logs) (g.D.Disk.state earlier) (g.D.Disk.state c.run_over_ledger.new.disk) files.ledger files.stage ledger stage c.files_of.ensures.ledger c.files_of.ensures.stage
    (step read (known_as (g.D.Disk.state read) (g.D.Disk.state c.args.disk.now) c.args.known ledger files.ledger (sym c.files_of.ensures.ledger) known) earlier since here grow))

pub returns-in-Err-clause-refused : goal.returns-in-Err-clause-refused
returns-in-Err-clause-refused g c = λ read known. inr refl

pub returns-in-Err-clause-given : goal.returns-in-Err-clause-given
returns-in-Err-clause-given g c = λ read known. inl refl

pub returns-in-Ok-run_over_ledger-clause-ran : goal.returns-in-Ok-run_over_ledger-clause-ran
returns-in-Ok-run_over_ledger-clause-ran g c = λ read known.
    let range : FitsSigned w64 c.args.moment = c.ranges.moment in
    let request = request_of c.args.spec.now (query_of c.args.query.now) c.args.text c.args.template.bytes c.args.moment in
    let ledger = c.args.ledger.now in
    let stage = c.args.ledger.now ++ codes ".stage" in
    let files = c.files_of.result in
    let since = known_as (g.D.Disk.state read) (g.D.Disk.state c.args.disk.now) c.args.known ledger files.ledger (sym c.files_of.ensures.ledger) known in
    let each = simp to_z-of_z at c.in-Ok-run_over_ledger.ensures.ran in
    same_by files.ledger files.stage ledger stage c.files_of.ensures.ledger c.files_of.ensures.stage c.in-Ok.sources.rotation c.args.spec.now.rotation c.in-Ok.ensures.rotation c.in-Ok.sources.names _ c.in-Ok.ensures.names
    (λ x y w t. HasRun g.D.Disk.state (g.D.Disk.state read) x y (rule_of w) (input_text (input_for c.args.spec.now (query_of c.args.query.now))) t request (sections_in (λ t. t.value) c.args.template.shared) (g.L.Logs.folder c.args.logs.now) (g.L.Logs.folder c.run_over_ledger.new.logs) c.in-Ok-run_over_ledger.counts) (each read since)

pub returns-clause-refused : goal.returns-clause-refused
returns-clause-refused g c = λ read known.
    let range : FitsSigned w64 c.args.moment = c.ranges.moment in
    let request = request_of c.args.spec.now (query_of c.args.query.now) c.args.text c.args.template.bytes c.args.moment in
    let ledger = c.args.ledger.now in
    let stage = c.args.ledger.now ++ codes ".stage" in
    let files = c.files_of.result in
    let since = known_as (g.D.Disk.state read) (g.D.Disk.state c.args.disk.now) c.args.known ledger files.ledger (sym c.files_of.ensures.ledger) known in
    let each = simp to_z-of_z at c.in-Err-run_over_ledger.ensures.refused in
    inl (record {
      stop = c.in-Err-run_over_ledger.stop;
      why = same_by files.ledger files.stage ledger stage c.files_of.ensures.ledger c.files_of.ensures.stage c.in-Ok.sources.rotation c.args.spec.now.rotation c.in-Ok.ensures.rotation c.in-Ok.sources.names _ c.in-Ok.ensures.names
          (λ x y w t. IsWithoutCounts g.D.Disk.state (g.D.Disk.state read) x y (rule_of w) (input_text (input_for c.args.spec.now (query_of c.args.query.now))) t request (sections_in (λ t. t.value) c.args.template.shared) (g.L.Logs.folder c.args.logs.now) (g.L.Logs.folder c.run_over_ledger.new.logs) c.in-Err-run_over_ledger.stop) (each read since);
      damage = same_by files.ledger files.stage ledger stage c.files_of.ensures.ledger c.files_of.ensures.stage c.in-Ok.sources.rotation c.args.spec.now.rotation c.in-Ok.ensures.rotation c.in-Ok.sources.names _ c.in-Ok.ensures.names
          (λ x y w t. IsAtDamage (g.D.Disk.state read) x y c.in-Err-run_over_ledger.stop) (c.in-Err-run_over_ledger.ensures.damaged read since);
      answers = c.uncounted.ensures;
    })

pub returns-in-Ok-run_over_ledger-clause-given : goal.returns-in-Ok-run_over_ledger-clause-given
returns-in-Ok-run_over_ledger-clause-given g c = λ read known.
    let ledger = c.args.ledger.now in
    let stage = c.args.ledger.now ++ codes ".stage" in
    let files = c.files_of.result in
    let since = known_as (g.D.Disk.state read) (g.D.Disk.state c.args.disk.now) c.args.known ledger files.ledger (sym c.files_of.ensures.ledger) known in
    same_by files.ledger files.stage ledger stage c.files_of.ensures.ledger c.files_of.ensures.stage c.in-Ok.sources.rotation c.args.spec.now.rotation c.in-Ok.ensures.rotation c.in-Ok.sources.names _ c.in-Ok.ensures.names
    (λ x y w t. GivesSpans (g.D.Disk.state read) x y (rule_of w) (input_text (input_for c.args.spec.now (query_of c.args.query.now))) t (query_of c.args.query.now) (g.L.Logs.folder c.args.logs.now) (g.L.Logs.folder c.run_over_ledger.new.logs) (g.L.Logs.given c.args.logs.now) (g.L.Logs.given c.run_over_ledger.new.logs)) (c.run_over_ledger.ensures.given read since)

pub returns-clause-given : goal.returns-clause-given
returns-clause-given g c = λ read known.
    let ledger = c.args.ledger.now in
    let stage = c.args.ledger.now ++ codes ".stage" in
    let files = c.files_of.result in
    let since = known_as (g.D.Disk.state read) (g.D.Disk.state c.args.disk.now) c.args.known ledger files.ledger (sym c.files_of.ensures.ledger) known in
    same_by files.ledger files.stage ledger stage c.files_of.ensures.ledger c.files_of.ensures.stage c.in-Ok.sources.rotation c.args.spec.now.rotation c.in-Ok.ensures.rotation c.in-Ok.sources.names _ c.in-Ok.ensures.names
    (λ x y w t. GivesSpans (g.D.Disk.state read) x y (rule_of w) (input_text (input_for c.args.spec.now (query_of c.args.query.now))) t (query_of c.args.query.now) (g.L.Logs.folder c.args.logs.now) (g.L.Logs.folder c.run_over_ledger.new.logs) (g.L.Logs.given c.args.logs.now) (g.L.Logs.given c.run_over_ledger.new.logs)) (c.run_over_ledger.ensures.given read since)
