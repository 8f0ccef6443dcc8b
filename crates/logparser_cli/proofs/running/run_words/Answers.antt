use Rattle.std.proofs.Common.{refl, inl, inr, sym, ◌∙◌, FitsSigned, w64}
use Rattle.std.proofs.lemmas.Int.{to_z-of_z}
use Rattle.logparser_cli.proofs.Keeping.{stage_named}
use Rattle.logparser_cli.proofs.Worded.{fine_texts}
use Rattle.std.proofs.Common.{◌≡◌, ◌≤◌, subst, arith}
use Rattle.command_words.specs.declared.spec.Spec.{Spec}
use Rattle.logparser_cli.specs.OnePass.{AsksInPass, IsOnePass, Progress, progress}
use Rattle.logparser_cli.specs.Outputs.{input_at}
use Rattle.logparser_cli.proofs.OnePasses.{kept_none, nothing_given, same_spec, told_now}
use Rattle.logparser_cli.proofs.Streamed.{stays_short}
use Rattle.logparser_cli.proofs.running.run_words.Goals as goal

pub run_kept-status-requires-clause-stage : goal.run_kept-status-requires-clause-stage
run_kept-status-requires-clause-stage g c = stage_named c.args.words.now c.in-Ok.spec c.in-Some.ledger c.in-Ok.ensures.asked c.in-Some.is

pub run_kept-status-requires-clause-texts : goal.run_kept-status-requires-clause-texts
run_kept-status-requires-clause-texts g c = fine_texts c.args.words.now c.in-Ok.spec c.in-Ok.ensures.fine c.in-Ok.ensures.asked

pub run_plainly-status-requires-clause-texts : goal.run_plainly-status-requires-clause-texts
run_plainly-status-requires-clause-texts g c = fine_texts c.args.words.now c.in-Ok.spec c.in-Ok.ensures.fine c.in-Ok.ensures.asked

pub returns-in-Some-clause-answers : goal.returns-in-Some-clause-answers
returns-in-Some-clause-answers g c =
    let range : FitsSigned w64 c.args.moment = c.ranges.moment in
    inr (record {
      now = simp to_z-of_z at c.run_kept-status.ensures.now;
      spec = c.in-Ok.spec;
      fine = c.in-Ok.ensures.fine;
      options = c.in-Ok.ensures.asked;
      ledger = c.in-Some.ledger;
      is_kept = c.in-Some.is;
      out = refl;
      answers = simp to_z-of_z at c.run_kept-status.ensures.answers;
    })

pub returns-clause-answers : goal.returns-clause-answers
returns-clause-answers g c =
    let range : FitsSigned w64 c.args.moment = c.ranges.moment in
    let answers = simp to_z-of_z at c.run_plainly-status.ensures.answers in
    inl (inl (sym c.in-Ok.ensures.asked.checkpoint ∙ c.in_default.is), answers c.args.words.now c.in-Ok.ensures.fine c.in-Ok.ensures.asked)

pub returns-clause-given : goal.returns-clause-given
returns-clause-given g c = λ none. c.run_plainly-status.ensures.given c.args.words.now c.in-Ok.ensures.fine c.in-Ok.ensures.asked

pub returns-in-Err-clause-one_pass : goal.returns-in-Err-clause-one_pass
returns-in-Err-clause-one_pass g c = λ spec q format a.
    let old : Progress = progress (g.L.Logs.folder c.args.logs.now) (g.L.Logs.given c.args.logs.now) (input_at g.I.Source.left g.I.Source.given g.I.Source.faults c.args.input.now) (g.S.Sink.written c.args.out.now) in
    nothing_given spec c.args.moment q format old old.folder old.given (told_now old.folder (old.given ≤ old.given) (omega arith))

pub returns-in-Some-clause-one_pass : goal.returns-in-Some-clause-one_pass
returns-in-Some-clause-one_pass g c = λ spec q format a. absurd (kept_none c.args.words.now spec c.in-Ok.spec c.in-Some.ledger a.asks.options c.in-Ok.ensures.asked a.plain c.in-Some.is)

pub returns-clause-one_pass : goal.returns-clause-one_pass
returns-clause-one_pass g c = λ spec q format a.
    let range : FitsSigned w64 c.args.moment = c.ranges.moment in
    let old : Progress = progress (g.L.Logs.folder c.args.logs.now) (g.L.Logs.given c.args.logs.now) (input_at g.I.Source.left g.I.Source.given g.I.Source.faults c.args.input.now) (g.S.Sink.written c.args.out.now) in
    let new : Progress = progress (g.L.Logs.folder c.run_plainly-status.new.logs) (g.L.Logs.given c.run_plainly-status.new.logs) (input_at g.I.Source.left g.I.Source.given g.I.Source.faults c.run_plainly-status.new.input) (g.S.Sink.written c.run_plainly-status.new.out) in
    let same : spec ≡ c.in-Ok.spec = same_spec c.args.words.now spec c.in-Ok.spec a.asks.options c.in-Ok.ensures.asked in
    let own = subst (λ (s : Spec). AsksInPass old.folder new.folder c.args.words.now s q format) same a in
    subst (λ (s : Spec). IsOnePass s c.args.moment q format old new) (sym same) ((simp to_z-of_z at c.run_plainly-status.ensures.one_pass) c.args.words.now c.in-Ok.ensures.fine c.in-Ok.ensures.asked q format own)

pub returns-in-Err-clause-too_long : goal.returns-in-Err-clause-too_long
returns-in-Err-clause-too_long g c = λ long. absurd (stays_short g.I.Source.given c.args.input.now c.args.input.now refl long)

pub returns-in-Some-clause-too_long : goal.returns-in-Some-clause-too_long
returns-in-Some-clause-too_long g c = λ long. absurd (stays_short g.I.Source.given c.args.input.now c.args.input.now refl long)
