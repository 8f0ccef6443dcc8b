use Rattle.std.proofs.Common.{Ok, Err, refl, ap, FitsSigned, w64}
use Rattle.std.proofs.lemmas.Int.{to_z-of_z}
use Rattle.logparser_cli.proofs.Keeping.{done_is_no_fault}
use Rattle.logparser_cli.proofs.running.run_kept.Goals as goal

pub returns-in-Ok-clause-answers : goal.returns-in-Ok-clause-answers
returns-in-Ok-clause-answers g c =
    let range : FitsSigned w64 c.args.moment = c.ranges.moment in
    record {
      result = Ok c.in-Ok.counts;
      status_is = refl;
      step = simp to_z-of_z at c.in-Ok.ensures.step;
      whole = simp to_z-of_z at c.in-Ok.ensures.whole;
      refused = tt;
      told_counts = c.tell_statistics.ensures.told;
      logs = λ e. absurd (done_is_no_fault.0 e);
      disk = λ e. absurd (done_is_no_fault.1 e);
    }

pub returns-in-Err-clause-answers : goal.returns-in-Err-clause-answers
returns-in-Err-clause-answers g c =
    let range : FitsSigned w64 c.args.moment = c.ranges.moment in
    record {
      result = Err c.in-Err.status;
      status_is = refl;
      step = simp to_z-of_z at c.in-Err.ensures.step;
      whole = tt;
      refused = simp to_z-of_z at c.in-Err.ensures.refused;
      told_counts = tt;
      logs = λ e. c.in-Err.ensures.logs (ap Err e);
      disk = λ e. c.in-Err.ensures.disk (ap Err e);
    }
