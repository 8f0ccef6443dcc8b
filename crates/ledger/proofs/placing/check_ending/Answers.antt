use Rattle.ledger.proofs.Composing.{handed, refused_first, refused_second, checks_behind}
use Rattle.ledger_model.specs.Numbers.{number}
use Rattle.ledger_model.specs.Layouts.{behind}
use Rattle.ledger_model.specs.Grammar.{outputs_layout, counts_layout}
use Rattle.ledger.proofs.placing.check_ending.Goals as goal

pub returns-in_err-number-clause-looks : goal.returns-in_err-number-clause-looks
returns-in_err-number-clause-looks g c = λ file to can.
    let k = c.in_err-number.ensures.gives file to can in
    (k.0, handed c.from_residual.result c.in_err-number.field-0.0 _ _ c.from_residual.ensures.1 (refused_first number (λ staged. behind outputs_layout (λ outputs. counts_layout)) file to _ _ k.1))

pub returns-in_err-outputs-clause-looks : goal.returns-in_err-outputs-clause-looks
returns-in_err-outputs-clause-looks g c = λ file to can.
    let k = c.in_ok-number.ensures.gives file to can in
    let o = c.in_err-outputs.ensures.looks file to k.0 in
    (o.0, handed c.from_residual-in_err-outputs.result c.in_err-outputs.field-0.0 _ _ c.from_residual-in_err-outputs.ensures.1 (refused_second number (λ staged. behind outputs_layout (λ outputs. counts_layout)) file to _ _ _ _ k.1 (refused_first outputs_layout (λ outputs. counts_layout) file to _ _ o.1)))

pub returns-clause-looks : goal.returns-clause-looks
returns-clause-looks g c = λ file to can.
    let k = c.in_ok-number.ensures.gives file to can in
    let o = c.in_ok-outputs.ensures.looks file to k.0 in
    let l = c.check_counts.ensures.looks file to o.0 in
    (l.0, checks_behind number (λ staged. behind outputs_layout (λ outputs. counts_layout)) file to _ _ _ _ k.1 c.check_counts.result (checks_behind outputs_layout (λ outputs. counts_layout) file to _ _ _ o.1.value o.1.read c.check_counts.result l.1))
