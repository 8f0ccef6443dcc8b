use Rattle.std.proofs.Common.{◌≡◌, ◌++◌, ℕ, List, Option, ap, ◌∙◌, subst}
use Rattle.lp_model.specs.Outside.{Gains, GainsSome}
use Rattle.lp_model.proofs.Gaining.{Gains_trans, GainsSome_front, GainsSome_later}
use Rattle.lp_model.proofs.Results.{on_err}
use Rattle.reports.specs.Messages.{counted, named, details}
use Rattle.reports.proofs.report.write_called.Goals as goal

-- the pieces of a reason, read as bytes
of_bytes : (a b head tail whole : List ℕ) (number : Option ℕ) → a ≡ head → b ≡ tail → head ++ counted number ++ tail ≡ whole → a ++ counted number ++ b ≡ whole
of_bytes a b head tail whole number first last same = ap (λ t. t ++ counted number ++ b) first ∙ (ap (λ t. head ++ counted number ++ t) last ∙ same)

pub returns-in_err-write_reason-clause-err : goal.returns-in_err-write_reason-clause-err
returns-in_err-write_reason-clause-err g c =
    let same = of_bytes c.as_bytes.result.now c.as_bytes-2.result.now c.named-number.result.0.now c.named-number.result.2.now (named c.args.status.now) c.named-number.result.1 c.as_bytes.ensures.value c.as_bytes-2.ensures.value c.named-number.ensures in
    let Of : List ℕ → Type 0 = λ t. GainsSome (g.E.Sink.written c.args.err.now) (g.E.Sink.written c.write_reason.new.err) t in
    on_err _ c.from_residual.result (GainsSome_front _ _ (named c.args.status.now) (details c.args.status.now) (subst Of same c.in_err-write_reason.ensures.err))

pub returns-in_err-write_details-clause-err : goal.returns-in_err-write_details-clause-err
returns-in_err-write_details-clause-err g c =
    let same = of_bytes c.as_bytes.result.now c.as_bytes-2.result.now c.named-number.result.0.now c.named-number.result.2.now (named c.args.status.now) c.named-number.result.1 c.as_bytes.ensures.value c.as_bytes-2.ensures.value c.named-number.ensures in
    let Of : List ℕ → Type 0 = λ t. Gains (g.E.Sink.written c.args.err.now) (g.E.Sink.written c.write_reason.new.err) t in
    on_err _ c.from_residual-in_err-write_details.result (GainsSome_later _ _ _ (named c.args.status.now) (details c.args.status.now) (subst Of same c.in_ok-write_reason.ensures.ok) c.in_err-write_details.ensures.err)

pub returns-clause-ok : goal.returns-clause-ok
returns-clause-ok g c =
    let same = of_bytes c.as_bytes.result.now c.as_bytes-2.result.now c.named-number.result.0.now c.named-number.result.2.now (named c.args.status.now) c.named-number.result.1 c.as_bytes.ensures.value c.as_bytes-2.ensures.value c.named-number.ensures in
    let Of : List ℕ → Type 0 = λ t. Gains (g.E.Sink.written c.args.err.now) (g.E.Sink.written c.write_reason.new.err) t in
    Gains_trans _ _ _ (named c.args.status.now) (details c.args.status.now) (subst Of same c.in_ok-write_reason.ensures.ok) c.in_ok-write_details.ensures.ok
