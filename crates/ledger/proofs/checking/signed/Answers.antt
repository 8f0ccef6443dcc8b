use Rattle.ledger.proofs.Composing.{handed, some_read}
use Rattle.ledger.specs.Counted.{any_signed}
use Rattle.ledger.proofs.checking.signed.Goals as goal

pub returns-in_err-signed-clause-looks : goal.returns-in_err-signed-clause-looks
returns-in_err-signed-clause-looks g c = λ file to can.
    let k = c.in_err-signed.ensures.gives file to can in
    (k.0, handed c.from_residual.result c.in_err-signed.field-0.0 _ _ c.from_residual.ensures.1 (k.1))

pub returns-clause-looks : goal.returns-clause-looks
returns-clause-looks g c = λ file to can.
    let k = c.in_ok-signed.ensures.gives file to can in
    (k.0, some_read any_signed file to _ _ _ k.1)
