use Rattle.std.proofs.Common.{◌≡◌, Bool, true, false, ap, sym, ◌∙◌, subst, FitsSigned, w64, arith}
use Rattle.std.proofs.lemmas.Int.{to_z-of_z}
use Rattle.query_text.specs.Stdin.{names_in}
use Rattle.query_tree.specs.Views.{query_of}
use Rattle.checkpointed_command.specs.Built.{reads_stdin}
use Rattle.checkpointed_command.specs.Texts.{sections_in}
use Rattle.tpl_output.specs.Sections.{Sections}
use Rattle.file_stage.specs.FileTexts.{AlwaysTells}
use Rattle.logparser_cli.specs.Answers.{AnswersOf}
use Rattle.logparser_cli.specs.Outputs.{World, held, input_at, world}
use Rattle.logparser_cli.proofs.Given.{no_logs}
use Rattle.logparser_cli.proofs.Streamed.{names_read, not_read, stays_short}
use Rattle.logparser_cli.proofs.running.run_over.Goals as goal

pub returns-then-reads_stdin-clause-answers : goal.returns-then-reads_stdin-clause-answers
returns-then-reads_stdin-clause-answers g c =
    let range : FitsSigned w64 c.args.moment = c.ranges.moment in
    let old : World = world (g.L.Logs.folder c.args.logs.now) (g.L.Logs.faults c.args.logs.now) (held (AlwaysTells g.D.Disk.state) (g.D.Disk.state c.args.disk.now).seen (g.S.Sink.written c.args.out.now)) (g.D.Disk.faults c.args.disk.now) (g.S.Sink.faults c.args.out.now) (g.E.Sink.written c.args.err.now) (g.E.Sink.faults c.args.err.now) (input_at g.I.Source.left g.I.Source.given g.I.Source.faults c.args.input.now) in
    let new : World = world (g.L.Logs.folder c.args.logs.now) (g.L.Logs.faults c.args.logs.now) (held (AlwaysTells g.D.Disk.state) (g.D.Disk.state c.run_input.new.disk).seen (g.S.Sink.written c.run_input.new.out)) (g.D.Disk.faults c.run_input.new.disk) (g.S.Sink.faults c.run_input.new.out) (g.E.Sink.written c.run_input.new.err) (g.E.Sink.faults c.run_input.new.err) (input_at g.I.Source.left g.I.Source.given g.I.Source.faults c.run_input.new.input) in
    let q = query_of c.args.query.now in
    let template : Sections = sections_in (λ t. t.value) c.args.template in
    let is : reads_stdin (names_in q) ≡ true = ap reads_stdin (sym (names_read c.args.query.now)) ∙ (sym c.reads_stdin.ensures ∙ c.if-reads_stdin.true) in
    subst (λ (stdin : Bool). AnswersOf stdin old new template c.args.spec.now c.args.moment q c.run_input.result) (sym is) ((simp to_z-of_z at c.run_input.ensures.answers) (g.L.Logs.folder c.args.logs.now) (g.L.Logs.faults c.args.logs.now))

pub returns-else-reads_stdin-clause-answers : goal.returns-else-reads_stdin-clause-answers
returns-else-reads_stdin-clause-answers g c =
    let range : FitsSigned w64 c.args.moment = c.ranges.moment in
    let old : World = world (g.L.Logs.folder c.args.logs.now) (g.L.Logs.faults c.args.logs.now) (held (AlwaysTells g.D.Disk.state) (g.D.Disk.state c.args.disk.now).seen (g.S.Sink.written c.args.out.now)) (g.D.Disk.faults c.args.disk.now) (g.S.Sink.faults c.args.out.now) (g.E.Sink.written c.args.err.now) (g.E.Sink.faults c.args.err.now) (input_at g.I.Source.left g.I.Source.given g.I.Source.faults c.args.input.now) in
    let new : World = world (g.L.Logs.folder c.run_logs.new.logs) (g.L.Logs.faults c.run_logs.new.logs) (held (AlwaysTells g.D.Disk.state) (g.D.Disk.state c.run_logs.new.disk).seen (g.S.Sink.written c.run_logs.new.out)) (g.D.Disk.faults c.run_logs.new.disk) (g.S.Sink.faults c.run_logs.new.out) (g.E.Sink.written c.run_logs.new.err) (g.E.Sink.faults c.run_logs.new.err) (input_at g.I.Source.left g.I.Source.given g.I.Source.faults c.run_logs.new.input) in
    let q = query_of c.args.query.now in
    let template : Sections = sections_in (λ t. t.value) c.args.template in
    let is : reads_stdin (names_in q) ≡ false = ap reads_stdin (sym (names_read c.args.query.now)) ∙ (sym c.reads_stdin.ensures ∙ c.if-reads_stdin.false) in
    subst (λ (stdin : Bool). AnswersOf stdin old new template c.args.spec.now c.args.moment q c.run_logs.result) (sym is) (simp to_z-of_z at c.run_logs.ensures.answers)

pub returns-then-reads_stdin-clause-given : goal.returns-then-reads_stdin-clause-given
returns-then-reads_stdin-clause-given g c = no_logs (g.L.Logs.folder c.args.logs.now) (query_of c.args.query.now) _ _ (omega arith)

pub returns-else-reads_stdin-clause-read : goal.returns-else-reads_stdin-clause-read
returns-else-reads_stdin-clause-read g c = not_read g.I.Source.left g.I.Source.given g.I.Source.faults c.args.input.now c.run_logs.new.input c.run_logs.ensures.input

pub returns-then-reads_stdin-clause-one_pass : goal.returns-then-reads_stdin-clause-one_pass
returns-then-reads_stdin-clause-one_pass g c = λ format passes.
    let range : FitsSigned w64 c.args.moment = c.ranges.moment in
    (simp to_z-of_z at c.run_input.ensures.one_pass) (g.L.Logs.folder c.args.logs.now) (g.L.Logs.given c.args.logs.now) format passes

pub returns-else-reads_stdin-clause-one_pass : goal.returns-else-reads_stdin-clause-one_pass
returns-else-reads_stdin-clause-one_pass g c = λ format passes.
    let range : FitsSigned w64 c.args.moment = c.ranges.moment in
    (simp to_z-of_z at c.run_logs.ensures.one_pass) format passes

pub returns-else-reads_stdin-clause-too_long : goal.returns-else-reads_stdin-clause-too_long
returns-else-reads_stdin-clause-too_long g c = λ long. absurd (stays_short g.I.Source.given c.args.input.now c.run_logs.new.input c.run_logs.ensures.input long)
