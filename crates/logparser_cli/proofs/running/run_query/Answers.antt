use Rattle.std.proofs.Common.{◌∙◌, Bool, Err, ap, arith, refl, subst, sym, FitsSigned, w64}
use Rattle.std.proofs.lemmas.Int.{to_z-of_z}
use Rattle.lp_model.proofs.Growing.{OnlyGrow-refl, OnlyGrow-trans}
use Rattle.query_tree.specs.Views.{query_of}
use Rattle.checkpointed_command.specs.Built.{reads_stdin}
use Rattle.checkpointed_command.specs.Texts.{sections_in}
use Rattle.tpl_output.specs.Sections.{Sections}
use Rattle.file_stage.specs.FileTexts.{AlwaysTells}
use Rattle.logparser_cli.specs.Answers.{AnswersOf}
use Rattle.logparser_cli.specs.Outputs.{World, held, input_at, world}
use Rattle.logparser_cli.specs.Subqueries.{IsFilled}
use Rattle.logparser_cli.proofs.Answering.{read_answers, run_filled, unprepared}
use Rattle.logparser_cli.proofs.Building.{plain_built}
use Rattle.logparser_cli.proofs.Given.{no_logs, template_alone}
use Rattle.logparser_cli.proofs.Prepared.{built_whole, logs_whole, names_whole, output_whole, prepared_reads}
use Rattle.logparser_cli.specs.OnePass.{IsOnePass, PassesRows, Progress, progress}
use Rattle.logparser_cli.proofs.OnePasses.{no_bytes, no_subquery_bytes, no_template_files, nothing_given, passed_earlier, same_query, told_and, told_later}
use Rattle.grammar.specs.Trees as model
use Rattle.std.proofs.Common.{◌≡◌, ◌≤◌}
use Rattle.logparser_cli.proofs.Streamed.{stays_short}
use Rattle.logparser_cli.proofs.running.run_query.Goals as goal

-- the query with what its subqueries gave is built, and its output is by the same template

pub run_over-requires-clause-built : goal.run_over-requires-clause-built
run_over-requires-clause-built g c =
    let range : FitsSigned w64 c.args.moment = c.ranges.moment in
    built_whole (simp to_z-of_z at c.in-Ok-prepare.ensures.fills) ∙ c.requires.built

pub run_over-requires-clause-template : goal.run_over-requires-clause-template
run_over-requires-clause-template g c = λ tpl.
    let range : FitsSigned w64 c.args.moment = c.ranges.moment in
    c.in-Ok.ensures.given (sym (output_whole (simp to_z-of_z at c.in-Ok-prepare.ensures.fills)) ∙ tpl)

pub returns-in-Ok-prepare-clause-answers : goal.returns-in-Ok-prepare-clause-answers
returns-in-Ok-prepare-clause-answers g c =
    let range : FitsSigned w64 c.args.moment = c.ranges.moment in
    let first : World = world (g.L.Logs.folder c.find_template.new.logs) (g.L.Logs.faults c.find_template.new.logs) (held (AlwaysTells g.D.Disk.state) (g.D.Disk.state c.args.disk.now).seen (g.S.Sink.written c.args.out.now)) (g.D.Disk.faults c.args.disk.now) (g.S.Sink.faults c.args.out.now) (g.E.Sink.written c.args.err.now) (g.E.Sink.faults c.args.err.now) (input_at g.I.Source.left g.I.Source.given g.I.Source.faults c.args.input.now) in
    let mid : World = world (g.L.Logs.folder c.prepare.new.logs) (g.L.Logs.faults c.prepare.new.logs) (held (AlwaysTells g.D.Disk.state) (g.D.Disk.state c.args.disk.now).seen (g.S.Sink.written c.args.out.now)) (g.D.Disk.faults c.args.disk.now) (g.S.Sink.faults c.args.out.now) (g.E.Sink.written c.args.err.now) (g.E.Sink.faults c.args.err.now) (input_at g.I.Source.left g.I.Source.given g.I.Source.faults c.args.input.now) in
    let new : World = world (g.L.Logs.folder c.run_over.new.logs) (g.L.Logs.faults c.run_over.new.logs) (held (AlwaysTells g.D.Disk.state) (g.D.Disk.state c.run_over.new.disk).seen (g.S.Sink.written c.run_over.new.out)) (g.D.Disk.faults c.run_over.new.disk) (g.S.Sink.faults c.run_over.new.out) (g.E.Sink.written c.run_over.new.err) (g.E.Sink.faults c.run_over.new.err) (input_at g.I.Source.left g.I.Source.given g.I.Source.faults c.run_over.new.input) in
    let q = query_of c.args.query.now in
    let whole = query_of c.prepare.new.query in
    let template : Sections = sections_in (λ t. t.value) c.in-Ok.template in
    let f : IsFilled c.args.spec.now c.args.moment (g.L.Logs.folder c.find_template.new.logs) (g.L.Logs.folder c.prepare.new.logs) q whole = simp to_z-of_z at c.in-Ok-prepare.ensures.fills in
    let ran = subst (λ (stdin : Bool). AnswersOf stdin mid new template c.args.spec.now c.args.moment whole c.run_over.result) (ap reads_stdin (names_whole f)) (simp to_z-of_z at c.run_over.ensures.answers) in
    read_answers first new (g.L.Logs.folder c.args.logs.now) (g.L.Logs.faults c.args.logs.now) c.args.spec.now c.args.moment q template c.run_over.result
    c.in-Ok.ensures.grows c.in-Ok.ensures.later (OnlyGrow-trans (g.L.Logs.folder c.find_template.new.logs) (g.L.Logs.folder c.prepare.new.logs) (g.L.Logs.folder c.run_over.new.logs) c.in-Ok-prepare.ensures.grows c.run_over.ensures.grows) c.in-Ok.ensures.found
    (run_filled mid new (g.L.Logs.folder c.find_template.new.logs) (g.L.Logs.faults c.find_template.new.logs) template c.args.spec.now c.args.moment q whole c.run_over.result c.in-Ok-prepare.ensures.grows c.in-Ok-prepare.ensures.later c.run_over.ensures.grows f ran)

pub returns-in-Ok-prepare-clause-given : goal.returns-in-Ok-prepare-clause-given
returns-in-Ok-prepare-clause-given g c =
    prepared_reads (g.L.Logs.folder c.find_template.new.logs) (g.L.Logs.folder c.prepare.new.logs) (g.L.Logs.folder c.run_over.new.logs) c.args.spec.now (query_of c.args.query.now) _ _ _ _ c.in-Ok-prepare.ensures.grows c.run_over.ensures.grows c.find_template.ensures.reads c.prepare.ensures.read
    (logs_whole (g.L.Logs.folder c.run_over.new.logs) _ _ c.in-Ok-prepare.ensures.fills c.run_over.ensures.given)

pub returns-in-Ok-prepare-clause-input : goal.returns-in-Ok-prepare-clause-input
returns-in-Ok-prepare-clause-input g c = λ files. c.run_over.ensures.input (ap reads_stdin (names_whole c.in-Ok-prepare.ensures.fills) ∙ files)

pub returns-in-Err-prepare-clause-answers : goal.returns-in-Err-prepare-clause-answers
returns-in-Err-prepare-clause-answers g c =
    let range : FitsSigned w64 c.args.moment = c.ranges.moment in
    let first : World = world (g.L.Logs.folder c.find_template.new.logs) (g.L.Logs.faults c.find_template.new.logs) (held (AlwaysTells g.D.Disk.state) (g.D.Disk.state c.args.disk.now).seen (g.S.Sink.written c.args.out.now)) (g.D.Disk.faults c.args.disk.now) (g.S.Sink.faults c.args.out.now) (g.E.Sink.written c.args.err.now) (g.E.Sink.faults c.args.err.now) (input_at g.I.Source.left g.I.Source.given g.I.Source.faults c.args.input.now) in
    let new : World = world (g.L.Logs.folder c.prepare.new.logs) (g.L.Logs.faults c.prepare.new.logs) (held (AlwaysTells g.D.Disk.state) (g.D.Disk.state c.args.disk.now).seen (g.S.Sink.written c.args.out.now)) (g.D.Disk.faults c.args.disk.now) (g.S.Sink.faults c.args.out.now) (g.E.Sink.written c.args.err.now) (g.E.Sink.faults c.args.err.now) (input_at g.I.Source.left g.I.Source.given g.I.Source.faults c.args.input.now) in
    let q = query_of c.args.query.now in
    let template : Sections = sections_in (λ t. t.value) c.in-Ok.template in
    read_answers first new (g.L.Logs.folder c.args.logs.now) (g.L.Logs.faults c.args.logs.now) c.args.spec.now c.args.moment q template c.in-Err-prepare.status
    c.in-Ok.ensures.grows c.in-Ok.ensures.later c.in-Err-prepare.ensures.grows c.in-Ok.ensures.found
    (unprepared first new template c.args.spec.now c.args.moment q c.in-Err-prepare.status (g.L.Logs.given c.prepare.new.logs ≡ g.L.Logs.given c.find_template.new.logs) (simp to_z-of_z at c.in-Err-prepare.ensures.refused) (record { out = refl; files = refl }) (λ e. c.in-Err-prepare.ensures.failed (ap Err e)))

pub returns-in-Err-prepare-clause-given : goal.returns-in-Err-prepare-clause-given
returns-in-Err-prepare-clause-given g c =
    prepared_reads (g.L.Logs.folder c.find_template.new.logs) (g.L.Logs.folder c.prepare.new.logs) (g.L.Logs.folder c.prepare.new.logs) c.args.spec.now (query_of c.args.query.now) _ _ _ _ c.in-Err-prepare.ensures.grows (OnlyGrow-refl (g.L.Logs.folder c.prepare.new.logs)) c.find_template.ensures.reads c.prepare.ensures.read
    (no_logs (g.L.Logs.folder c.prepare.new.logs) (query_of c.args.query.now) _ _ (omega arith))

pub returns-in-Err-clause-given : goal.returns-in-Err-clause-given
returns-in-Err-clause-given g c = template_alone (g.L.Logs.folder c.find_template.new.logs) c.args.spec.now (query_of c.args.query.now) _ _ c.find_template.ensures.reads

pub prepare-requires-clause-plain : goal.prepare-requires-clause-plain
prepare-requires-clause-plain g c = plain_built c.args.spec.now (query_of c.args.query.now) c.requires.built

pub returns-in-Err-clause-one_pass : goal.returns-in-Err-clause-one_pass
returns-in-Err-clause-one_pass g c = λ format passes.
    let old : Progress = progress (g.L.Logs.folder c.args.logs.now) (g.L.Logs.given c.args.logs.now) (input_at g.I.Source.left g.I.Source.given g.I.Source.faults c.args.input.now) (g.S.Sink.written c.args.out.now) in
    let q = query_of c.args.query.now in
    nothing_given c.args.spec.now c.args.moment q format old (g.L.Logs.folder c.find_template.new.logs) (g.L.Logs.given c.find_template.new.logs) (no_bytes (g.L.Logs.folder c.find_template.new.logs) _ _ _ (no_template_files c.args.spec.now q passes.goes.output) c.find_template.ensures.reads)

pub returns-in-Err-prepare-clause-one_pass : goal.returns-in-Err-prepare-clause-one_pass
returns-in-Err-prepare-clause-one_pass g c = λ format passes.
    let old : Progress = progress (g.L.Logs.folder c.args.logs.now) (g.L.Logs.given c.args.logs.now) (input_at g.I.Source.left g.I.Source.given g.I.Source.faults c.args.input.now) (g.S.Sink.written c.args.out.now) in
    let q = query_of c.args.query.now in
    let first = no_bytes (g.L.Logs.folder c.find_template.new.logs) _ _ _ (no_template_files c.args.spec.now q passes.goes.output) c.find_template.ensures.reads in
    let second = no_subquery_bytes (g.L.Logs.folder c.prepare.new.logs) _ _ _ passes.alone c.prepare.ensures.read in
    nothing_given c.args.spec.now c.args.moment q format old (g.L.Logs.folder c.prepare.new.logs) (g.L.Logs.given c.prepare.new.logs)
    (told_and (g.L.Logs.folder c.prepare.new.logs) (g.L.Logs.given c.find_template.new.logs ≤ g.L.Logs.given c.args.logs.now) (g.L.Logs.given c.prepare.new.logs ≤ g.L.Logs.given c.find_template.new.logs) _ (λ a b. omega arith) (told_later (g.L.Logs.folder c.find_template.new.logs) (g.L.Logs.folder c.prepare.new.logs) _ c.in-Err-prepare.ensures.grows first) second)

pub returns-in-Ok-prepare-clause-one_pass : goal.returns-in-Ok-prepare-clause-one_pass
returns-in-Ok-prepare-clause-one_pass g c = λ format passes.
    let range : FitsSigned w64 c.args.moment = c.ranges.moment in
    let old : Progress = progress (g.L.Logs.folder c.args.logs.now) (g.L.Logs.given c.args.logs.now) (input_at g.I.Source.left g.I.Source.given g.I.Source.faults c.args.input.now) (g.S.Sink.written c.args.out.now) in
    let new : Progress = progress (g.L.Logs.folder c.run_over.new.logs) (g.L.Logs.given c.run_over.new.logs) (input_at g.I.Source.left g.I.Source.given g.I.Source.faults c.run_over.new.input) (g.S.Sink.written c.run_over.new.out) in
    let q = query_of c.args.query.now in
    let whole = query_of c.prepare.new.query in
    let f : IsFilled c.args.spec.now c.args.moment (g.L.Logs.folder c.find_template.new.logs) (g.L.Logs.folder c.prepare.new.logs) q whole = simp to_z-of_z at c.in-Ok-prepare.ensures.fills in
    let same : whole ≡ q = same_query c.args.spec.now c.args.moment (g.L.Logs.folder c.find_template.new.logs) (g.L.Logs.folder c.prepare.new.logs) q whole passes.alone f in
    let first = no_bytes (g.L.Logs.folder c.find_template.new.logs) _ _ _ (no_template_files c.args.spec.now q passes.goes.output) c.find_template.ensures.reads in
    let second = no_subquery_bytes (g.L.Logs.folder c.prepare.new.logs) _ _ _ passes.alone c.prepare.ensures.read in
    let mid = told_and (g.L.Logs.folder c.prepare.new.logs) (g.L.Logs.given c.find_template.new.logs ≤ g.L.Logs.given c.args.logs.now) (g.L.Logs.given c.prepare.new.logs ≤ g.L.Logs.given c.find_template.new.logs) (g.L.Logs.given c.prepare.new.logs ≤ g.L.Logs.given c.args.logs.now) (λ a b. omega arith) (told_later (g.L.Logs.folder c.find_template.new.logs) (g.L.Logs.folder c.prepare.new.logs) _ c.in-Ok-prepare.ensures.grows first) second in
    let ran : IsOnePass c.args.spec.now c.args.moment whole format (progress (g.L.Logs.folder c.prepare.new.logs) (g.L.Logs.given c.prepare.new.logs) old.input old.out) new = (simp to_z-of_z at c.run_over.ensures.one_pass) format (subst (λ (x : model.Query). PassesRows c.args.spec.now x format) (sym same) passes) in
    passed_earlier c.args.spec.now c.args.moment q format old new (g.L.Logs.folder c.prepare.new.logs) (g.L.Logs.given c.prepare.new.logs)
    (OnlyGrow-trans (g.L.Logs.folder c.args.logs.now) (g.L.Logs.folder c.find_template.new.logs) (g.L.Logs.folder c.prepare.new.logs) c.in-Ok.ensures.grows c.in-Ok-prepare.ensures.grows)
    (told_later (g.L.Logs.folder c.prepare.new.logs) (g.L.Logs.folder c.run_over.new.logs) _ c.run_over.ensures.grows mid)
    (subst (λ (x : model.Query). IsOnePass c.args.spec.now c.args.moment x format (progress (g.L.Logs.folder c.prepare.new.logs) (g.L.Logs.given c.prepare.new.logs) old.input old.out) new) same ran)

pub returns-in-Err-clause-too_long : goal.returns-in-Err-clause-too_long
returns-in-Err-clause-too_long g c = λ long. absurd (stays_short g.I.Source.given c.args.input.now c.args.input.now refl long)

pub returns-in-Err-prepare-clause-too_long : goal.returns-in-Err-prepare-clause-too_long
returns-in-Err-prepare-clause-too_long g c = λ long. absurd (stays_short g.I.Source.given c.args.input.now c.args.input.now refl long)
