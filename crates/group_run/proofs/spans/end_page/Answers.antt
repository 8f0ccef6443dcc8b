use Rattle.std.proofs.Common.{◌≡◌, ap, sym, ◌∙◌, subst, refl, Err}
use Rattle.std.proofs.lemmas.Result.{IfErr-at_err}
use Rattle.query_run.specs.Faults.{OnBad, OnRefusedOutput}
use Rattle.query_run.specs.declared.fault.WriteFault.{WriteFault}
use Rattle.query_run.specs.declared.fault.WriteFault.TheVariants as W
use Rattle.query_run.proofs.Reasons.{bad_end, logs_end, output_end, refused_end}
use Rattle.group_run.proofs.spans.end_page.Goals as goal

pub returns-in-Err-clause-refused : goal.returns-in-Err-clause-refused
returns-in-Err-clause-refused g c =
    subst (OnRefusedOutput _) (sym c.ended_by.ensures) (refused_end c.in-Err.fault _ _ (λ why is. is) c.in-Err.ensures.refused)

pub returns-in-Err-clause-good : goal.returns-in-Err-clause-good
returns-in-Err-clause-good g c = subst (OnBad (λ line. ⊥)) (sym c.ended_by.ensures) (bad_end c.in-Err.fault (λ line. ⊥))

pub returns-in-Err-clause-logs : goal.returns-in-Err-clause-logs
returns-in-Err-clause-logs g c = λ e.
    let is : c.ended_by.result ≡ W.Logs = IfErr-at_err (λ (f : WriteFault). c.ended_by.result ≡ f) e refl in
    logs_end c.in-Err.fault (sym c.ended_by.ensures ∙ is)

pub returns-in-Err-clause-sink : goal.returns-in-Err-clause-sink
returns-in-Err-clause-sink g c = λ e.
    let is : c.ended_by.result ≡ W.Output = IfErr-at_err (λ (f : WriteFault). c.ended_by.result ≡ f) e refl in
    c.in-Err.ensures.failed (ap (λ f. Err f) (output_end c.in-Err.fault (sym c.ended_by.ensures ∙ is)))
