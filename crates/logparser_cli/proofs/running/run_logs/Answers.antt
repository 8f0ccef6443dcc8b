use Rattle.std.proofs.Common.{◌≤◌, Bool, Err, inl, ap, refl, sym, subst, arith, FitsSigned, w64}
use Rattle.std.proofs.lemmas.Int.{to_z-of_z}
use Rattle.query_tree.specs.Views.{query_of}
use Rattle.reports.specs.declared.status.Status.{Status}
use Rattle.checkpointed_command.specs.Texts.{sections_in}
use Rattle.file_stage.specs.FileTexts.{AlwaysTells}
use Rattle.tpl_output.specs.Sections.{Sections}
use Rattle.logparser_cli.specs.Answers.{AnswersRun}
use Rattle.lp_model.specs.Outside.{Rose}
use Rattle.logparser_cli.specs.Outputs.{OutputRose, World, held, input_at, world}
use Rattle.logparser_cli.proofs.Answering.{rose_since, whole, stopped_answers}
use Rattle.logparser_cli.proofs.Given.{logs_once, no_logs}
use Rattle.logparser_cli.specs.OnePass.{Progress, progress}
use Rattle.logparser_cli.proofs.OnePasses.{nothing_given, passed_over_logs, told_now}
use Rattle.logparser_cli.proofs.running.run_logs.Goals as goal

pub returns-in-Ok-write_rows-clause-answers : goal.returns-in-Ok-write_rows-clause-answers
returns-in-Ok-write_rows-clause-answers g c =
    let range : FitsSigned w64 c.args.moment = c.ranges.moment in
    let old : World = world (g.L.Logs.folder c.args.logs.now) (g.L.Logs.faults c.args.logs.now) (held (AlwaysTells g.D.Disk.state) (g.D.Disk.state c.args.disk.now).seen (g.S.Sink.written c.args.out.now)) (g.D.Disk.faults c.args.disk.now) (g.S.Sink.faults c.args.out.now) (g.E.Sink.written c.args.err.now) (g.E.Sink.faults c.args.err.now) (input_at g.I.Source.left g.I.Source.given g.I.Source.faults c.args.input.now) in
    let new : World = world (g.L.Logs.folder c.write_rows.new.logs) (g.L.Logs.faults c.write_rows.new.logs) (held (AlwaysTells g.D.Disk.state) (g.D.Disk.state c.write_rows.new.disk).seen (g.S.Sink.written c.write_rows.new.out)) (g.D.Disk.faults c.write_rows.new.disk) (g.S.Sink.faults c.write_rows.new.out) (g.E.Sink.written c.tell_statistics.new.err) (g.E.Sink.faults c.tell_statistics.new.err) (input_at g.I.Source.left g.I.Source.given g.I.Source.faults c.args.input.now) in
    let template : Sections = sections_in (λ t. t.value) c.args.template in
    whole old new (g.L.Logs.folder c.find_spans.new.logs) template c.args.spec.now c.args.moment (query_of c.args.query.now) c.in-Ok.spans c.in-Ok-write_rows.ran.counts c.in-Ok.ensures.found c.in-Ok-write_rows.ensures.grows (simp to_z-of_z at c.in-Ok-write_rows.ensures.ran) c.in-Ok-write_rows.ensures.within c.tell_statistics.ensures.told

pub returns-clause-answers : goal.returns-clause-answers
returns-clause-answers g c =
    let range : FitsSigned w64 c.args.moment = c.ranges.moment in
    let old : World = world (g.L.Logs.folder c.args.logs.now) (g.L.Logs.faults c.args.logs.now) (held (AlwaysTells g.D.Disk.state) (g.D.Disk.state c.args.disk.now).seen (g.S.Sink.written c.args.out.now)) (g.D.Disk.faults c.args.disk.now) (g.S.Sink.faults c.args.out.now) (g.E.Sink.written c.args.err.now) (g.E.Sink.faults c.args.err.now) (input_at g.I.Source.left g.I.Source.given g.I.Source.faults c.args.input.now) in
    let new : World = world (g.L.Logs.folder c.write_rows.new.logs) (g.L.Logs.faults c.write_rows.new.logs) (held (AlwaysTells g.D.Disk.state) (g.D.Disk.state c.write_rows.new.disk).seen (g.S.Sink.written c.write_rows.new.out)) (g.D.Disk.faults c.write_rows.new.disk) (g.S.Sink.faults c.write_rows.new.out) (g.E.Sink.written c.args.err.now) (g.E.Sink.faults c.args.err.now) (input_at g.I.Source.left g.I.Source.given g.I.Source.faults c.args.input.now) in
    let q = query_of c.args.query.now in
    let template : Sections = sections_in (λ t. t.value) c.args.template in
    subst (λ (status : Status). AnswersRun old new template c.args.spec.now c.args.moment q status) (sym c.stopped.ensures)
    (stopped_answers old new (g.L.Logs.folder c.find_spans.new.logs) template c.args.spec.now c.args.moment q c.in-Ok.spans c.is_standard.result c.in-Err-write_rows.fault (sym c.is_standard.ensures) c.in-Ok.ensures.found c.in-Err-write_rows.ensures.grows
    (simp to_z-of_z at c.in-Err-write_rows.ensures.stopped) (simp to_z-of_z at c.in-Err-write_rows.ensures.plan) c.in-Err-write_rows.ensures.plan_in_turn c.in-Err-write_rows.ensures.before (simp to_z-of_z at c.in-Err-write_rows.ensures.parse) (simp to_z-of_z at c.in-Err-write_rows.ensures.refused)
    (λ e. rose_since _ _ _ c.in-Ok.ensures.later (c.in-Err-write_rows.ensures.logs (ap Err e))) (λ e. subst (λ (standard : Bool). OutputRose standard (Rose old.disk_faults new.disk_faults) (Rose old.out_faults new.out_faults)) (sym c.is_standard.ensures) (c.in-Err-write_rows.ensures.failed (ap Err e))))

pub returns-in-Err-clause-given : goal.returns-in-Err-clause-given
returns-in-Err-clause-given g c = let same = c.find_spans.ensures.given in no_logs _ _ _ _ (omega arith)

pub returns-in-Ok-write_rows-clause-given : goal.returns-in-Ok-write_rows-clause-given
returns-in-Ok-write_rows-clause-given g c =
    let same = c.find_spans.ensures.given in
    let most = c.write_rows.ensures.given in
    logs_once (g.L.Logs.folder c.args.logs.now) (g.L.Logs.folder c.find_spans.new.logs) (g.L.Logs.folder c.write_rows.new.logs) (query_of c.args.query.now) c.in-Ok.spans _ _ c.requires.files c.in-Ok.ensures.found c.write_rows.ensures.grows (omega arith)

pub returns-clause-given : goal.returns-clause-given
returns-clause-given g c =
    let same = c.find_spans.ensures.given in
    let most = c.write_rows.ensures.given in
    logs_once (g.L.Logs.folder c.args.logs.now) (g.L.Logs.folder c.find_spans.new.logs) (g.L.Logs.folder c.write_rows.new.logs) (query_of c.args.query.now) c.in-Ok.spans _ _ c.requires.files c.in-Ok.ensures.found c.write_rows.ensures.grows (omega arith)

pub write_rows-requires-clause-readable : goal.write_rows-requires-clause-readable
write_rows-requires-clause-readable g c = inl (record { there = c.in-Ok.ensures.there; ready = λ later name place. tt })

pub returns-in-Err-clause-one_pass : goal.returns-in-Err-clause-one_pass
returns-in-Err-clause-one_pass g c = λ format passes.
    let old : Progress = progress (g.L.Logs.folder c.args.logs.now) (g.L.Logs.given c.args.logs.now) (input_at g.I.Source.left g.I.Source.given g.I.Source.faults c.args.input.now) (g.S.Sink.written c.args.out.now) in
    let same = c.find_spans.ensures.given in
    nothing_given c.args.spec.now c.args.moment (query_of c.args.query.now) format old (g.L.Logs.folder c.find_spans.new.logs) (g.L.Logs.given c.find_spans.new.logs) (told_now (g.L.Logs.folder c.find_spans.new.logs) (g.L.Logs.given c.find_spans.new.logs ≤ old.given) (omega arith))

pub returns-in-Ok-write_rows-clause-one_pass : goal.returns-in-Ok-write_rows-clause-one_pass
returns-in-Ok-write_rows-clause-one_pass g c = λ format passes.
    let range : FitsSigned w64 c.args.moment = c.ranges.moment in
    let old : Progress = progress (g.L.Logs.folder c.args.logs.now) (g.L.Logs.given c.args.logs.now) (input_at g.I.Source.left g.I.Source.given g.I.Source.faults c.args.input.now) (g.S.Sink.written c.args.out.now) in
    let new : Progress = progress (g.L.Logs.folder c.write_rows.new.logs) (g.L.Logs.given c.write_rows.new.logs) (input_at g.I.Source.left g.I.Source.given g.I.Source.faults c.args.input.now) (g.S.Sink.written c.write_rows.new.out) in
    passed_over_logs c.args.spec.now c.args.moment (query_of c.args.query.now) format old new (g.L.Logs.folder c.find_spans.new.logs) c.in-Ok.spans (g.L.Logs.given c.find_spans.new.logs) passes.goes.output c.requires.files c.in-Ok.ensures.found c.write_rows.ensures.grows refl c.find_spans.ensures.given
    ((simp to_z-of_z at c.write_rows.ensures.one_pass) format passes.goes)

pub returns-clause-one_pass : goal.returns-clause-one_pass
returns-clause-one_pass g c = λ format passes.
    let range : FitsSigned w64 c.args.moment = c.ranges.moment in
    let old : Progress = progress (g.L.Logs.folder c.args.logs.now) (g.L.Logs.given c.args.logs.now) (input_at g.I.Source.left g.I.Source.given g.I.Source.faults c.args.input.now) (g.S.Sink.written c.args.out.now) in
    let new : Progress = progress (g.L.Logs.folder c.write_rows.new.logs) (g.L.Logs.given c.write_rows.new.logs) (input_at g.I.Source.left g.I.Source.given g.I.Source.faults c.args.input.now) (g.S.Sink.written c.write_rows.new.out) in
    passed_over_logs c.args.spec.now c.args.moment (query_of c.args.query.now) format old new (g.L.Logs.folder c.find_spans.new.logs) c.in-Ok.spans (g.L.Logs.given c.find_spans.new.logs) passes.goes.output c.requires.files c.in-Ok.ensures.found c.write_rows.ensures.grows refl c.find_spans.ensures.given
    ((simp to_z-of_z at c.write_rows.ensures.one_pass) format passes.goes)
