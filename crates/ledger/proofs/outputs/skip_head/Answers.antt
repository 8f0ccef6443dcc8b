use Rattle.ledger_model.specs.Layouts.{behind}
use Rattle.ledger_model.specs.Numbers.{text_of}
use Rattle.ledger.specs.Reader.{any_byte}
use Rattle.ledger.specs.Counted.{any_signed}
use Rattle.ledger.specs.Passing.{IsText}
use Rattle.ledger.specs.declared.passing.TextKind.TheVariants.{Any}
use Rattle.ledger.proofs.Composing.{handed, refused_first, refused_second, checks_behind}
use Rattle.ledger.proofs.outputs.skip_head.Goals as goal

pub returns-in_err-byte-clause-looks : goal.returns-in_err-byte-clause-looks
returns-in_err-byte-clause-looks g c = λ file to can.
    let k = c.in_err-byte.ensures.gives file to can in
    (k.0, handed c.from_residual.result c.in_err-byte.field-0.0 _ _ c.from_residual.ensures.1 (refused_first any_byte (λ form. behind any_signed (λ moment. text_of (IsText Any))) file to _ _ k.1))

pub returns-in_err-signed-clause-looks : goal.returns-in_err-signed-clause-looks
returns-in_err-signed-clause-looks g c = λ file to can.
    let k = c.in_ok-byte.ensures.gives file to can in
    let t = c.in_err-signed.ensures.gives file to k.0 in
    (t.0, handed c.from_residual-in_err-signed.result c.in_err-signed.field-0.0 _ _ c.from_residual-in_err-signed.ensures.1 (refused_second any_byte (λ form. behind any_signed (λ moment. text_of (IsText Any))) file to _ _ _ _ k.1 (refused_first any_signed (λ moment. text_of (IsText Any)) file to _ _ t.1)))

pub returns-clause-looks : goal.returns-clause-looks
returns-clause-looks g c = λ file to can.
    let k = c.in_ok-byte.ensures.gives file to can in
    let t = c.in_ok-signed.ensures.gives file to k.0 in
    let l = c.text.ensures.looks file to t.0 in
    (l.0, checks_behind any_byte (λ form. behind any_signed (λ moment. text_of (IsText Any))) file to _ _ _ _ k.1 c.text.result (checks_behind any_signed (λ moment. text_of (IsText Any)) file to _ _ _ _ t.1 c.text.result l.1))
