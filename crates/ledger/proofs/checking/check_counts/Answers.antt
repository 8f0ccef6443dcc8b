use Rattle.ledger.proofs.Composing.{handed, refused_first, refused_second, read_both, some_read}
use Rattle.ledger_model.specs.Numbers.{number}
use Rattle.ledger_model.specs.Layouts.{behind}
use Rattle.ledger_model.specs.Grammar.{counts_layout}
use Rattle.ledger.proofs.checking.check_counts.Goals as goal

pub returns-in_err-number-clause-looks : goal.returns-in_err-number-clause-looks
returns-in_err-number-clause-looks g c = λ file to can.
    let k = c.in_err-number.ensures.gives file to can in
    (k.0, handed c.from_residual.result c.in_err-number.field-0.0 _ _ c.from_residual.ensures.1 (refused_first number (λ a. behind number (λ b. number)) file to _ _ k.1))

pub returns-in_err-number-2-clause-looks : goal.returns-in_err-number-2-clause-looks
returns-in_err-number-2-clause-looks g c = λ file to can.
    let k = c.in_ok-number.ensures.gives file to can in
    let m = c.in_err-number-2.ensures.gives file to k.0 in
    (m.0, handed c.from_residual-in_err-number-2.result c.in_err-number-2.field-0.0 _ _ c.from_residual-in_err-number-2.ensures.1 (refused_second number (λ a. behind number (λ b. number)) file to _ _ _ _ k.1 (refused_first number (λ b. number) file to _ _ m.1)))

pub returns-in_err-number-3-clause-looks : goal.returns-in_err-number-3-clause-looks
returns-in_err-number-3-clause-looks g c = λ file to can.
    let k = c.in_ok-number.ensures.gives file to can in
    let m = c.in_ok-number-2.ensures.gives file to k.0 in
    let n = c.in_err-number-3.ensures.gives file to m.0 in
    (n.0, handed c.from_residual-in_err-number-3.result c.in_err-number-3.field-0.0 _ _ c.from_residual-in_err-number-3.ensures.1 (refused_second number (λ a. behind number (λ b. number)) file to _ _ _ _ k.1 (refused_second number (λ b. number) file to _ _ _ _ m.1 n.1)))

pub returns-clause-looks : goal.returns-clause-looks
returns-clause-looks g c = λ file to can.
    let k = c.in_ok-number.ensures.gives file to can in
    let m = c.in_ok-number-2.ensures.gives file to k.0 in
    let n = c.in_ok-number-3.ensures.gives file to m.0 in
    (n.0, some_read counts_layout file to _ _ _ (read_both number (λ a. behind number (λ b. number)) file to _ _ _ _ _ k.1 (read_both number (λ b. number) file to _ _ _ _ _ m.1 n.1)))
