use Rattle.ledger.proofs.Composing.{handed, refused_first, checks_behind}
use Rattle.ledger_model.specs.Grammar.{spans_layout, lists_layout}
use Rattle.ledger.proofs.checking.check_kept.Goals as goal

pub returns-in_err-spans-clause-looks : goal.returns-in_err-spans-clause-looks
returns-in_err-spans-clause-looks g c = λ file to can.
    let s = c.in_err-spans.ensures.looks file to can in
    (s.0, handed c.from_residual.result c.in_err-spans.field-0.0 _ _ c.from_residual.ensures.1 (refused_first spans_layout (λ spans. lists_layout) file to _ _ s.1))

pub returns-clause-looks : goal.returns-clause-looks
returns-clause-looks g c = λ file to can.
    let s = c.in_ok-spans.ensures.looks file to can in
    let l = c.lists.ensures.looks file to s.0 in
    (l.0, checks_behind spans_layout (λ spans. lists_layout) file to _ _ _ s.1.value s.1.read c.lists.result l.1)
