use Rattle.std.proofs.Common.{◌≡◌, ℤ, subst, arith, FitsSigned, w64}
use Rattle.std.proofs.lemmas.Int.{to_z-of_z}
use Rattle.lp_model.specs.Outside.{Rose}
use Rattle.reports.specs.Messages.{message}
use Rattle.logparser_cli.specs.Kept.{Answers}
use Rattle.file_stage.specs.FileTexts.{AlwaysTells}
use Rattle.logparser_cli.specs.Outputs.{World, held, input_at, world}
use Rattle.logparser_cli.specs.Whole.{Tells}
use Rattle.logparser_cli.proofs.Answering.{on_refused, refused_is}
use Rattle.logparser_cli.proofs.Keeping.{told_all}
use Rattle.grammar.specs.Trees as model
use Rattle.command_words.specs.declared.spec.Spec.{Spec}
use Rattle.input_tables.specs.declared.format.TableFormat.{TableFormat}
use Rattle.logparser_cli.specs.OnePass.{AsksInPass, IsOnePass, progress}
use Rattle.logparser_cli.proofs.running.run.Goals as goal

pub returns-in_default : goal.returns-in_default
returns-in_default g c =
    let old : World = world (g.L.Logs.folder c.args.logs.now) (g.L.Logs.faults c.args.logs.now) (held (AlwaysTells g.D.Disk.state) (g.D.Disk.state c.args.disk.now).seen (g.S.Sink.written c.args.out.now)) (g.D.Disk.faults c.args.disk.now) (g.S.Sink.faults c.args.out.now) (g.E.Sink.written c.args.err.now) (g.E.Sink.faults c.args.err.now) (input_at g.I.Source.left g.I.Source.given g.I.Source.faults c.args.input.now) in
    let new : World = world (g.L.Logs.folder c.run_words.new.logs) (g.L.Logs.faults c.run_words.new.logs) (held (AlwaysTells g.D.Disk.state) (g.D.Disk.state c.run_words.new.disk).seen (g.S.Sink.written c.run_words.new.out)) (g.D.Disk.faults c.run_words.new.disk) (g.S.Sink.faults c.run_words.new.out) (g.E.Sink.written c.run_words.new.err) (g.E.Sink.faults c.run_words.new.err) (input_at g.I.Source.left g.I.Source.given g.I.Source.faults c.run_words.new.input) in
    let status = c.run_words.result in
    let same : c.run_words.new.err ≡ c.args.err.now = refused_is status (c.run_words.new.err ≡ c.args.err.now) c.in_default.not-Done c.run_words.ensures.silent in
    record {
      answers = told_all g.D.Disk.state c.args.disk.now c.run_words.new.disk old new (g.E.Sink.written c.tell_refusal.new.err) (g.E.Sink.faults c.tell_refusal.new.err) c.args.moment c.args.words.now status c.in_default.not-Done
          (subst (λ (moment : ℤ). Answers g.D.Disk.state c.args.disk.now c.run_words.new.disk moment c.args.words.now old new status) (to_z-of_z _ c.args.moment c.ranges.moment) c.run_words.ensures.answers);
      told = on_refused status (Tells (g.E.Sink.written c.args.err.now) (g.E.Sink.written c.tell_refusal.new.err) (message status) (Rose (g.E.Sink.faults c.args.err.now) (g.E.Sink.faults c.tell_refusal.new.err)))
          (subst (λ (err : g.row.E.Denot). Tells (g.E.Sink.written err) (g.E.Sink.written c.tell_refusal.new.err) (message status) (Rose (g.E.Sink.faults err) (g.E.Sink.faults c.tell_refusal.new.err))) same c.tell_refusal.ensures.told);
      grows = c.run_words.ensures.grows;
      later = c.run_words.ensures.later;
      honest = c.run_words.ensures.honest;
      later_disk = c.run_words.ensures.later_disk;
      later_out = c.run_words.ensures.later_out;
      later_err = let first = c.run_words.ensures.later_err in let second = c.tell_refusal.ensures.later in omega arith;
      given = c.run_words.ensures.given;
      kept = c.run_words.ensures.kept;
      one_pass = subst (λ (moment : ℤ). (spec : Spec) (q : model.Query) (format : TableFormat) → AsksInPass (g.L.Logs.folder c.args.logs.now) (g.L.Logs.folder c.run_words.new.logs) c.args.words.now spec q format → IsOnePass spec moment q format (progress (g.L.Logs.folder c.args.logs.now) (g.L.Logs.given c.args.logs.now) (input_at g.I.Source.left g.I.Source.given g.I.Source.faults c.args.input.now) (g.S.Sink.written c.args.out.now)) (progress (g.L.Logs.folder c.run_words.new.logs) (g.L.Logs.given c.run_words.new.logs) (input_at g.I.Source.left g.I.Source.given g.I.Source.faults c.run_words.new.input) (g.S.Sink.written c.run_words.new.out))) (to_z-of_z _ c.args.moment c.ranges.moment) c.run_words.ensures.one_pass;
      input = c.run_words.ensures.input;
      unread = c.run_words.ensures.unread;
      read = c.run_words.ensures.read;
      too_long = c.run_words.ensures.too_long;
    }

pub returns-in-Done-clause-answers : goal.returns-in-Done-clause-answers
returns-in-Done-clause-answers g c =
    let range : FitsSigned w64 c.args.moment = c.ranges.moment in
    simp to_z-of_z at c.in-Done.ensures.answers

pub returns-in-Done-clause-one_pass : goal.returns-in-Done-clause-one_pass
returns-in-Done-clause-one_pass g c =
    let range : FitsSigned w64 c.args.moment = c.ranges.moment in
    simp to_z-of_z at c.in-Done.ensures.one_pass
