use Rattle.std.proofs.Common.{arith}
use Rattle.ledger.proofs.Composing.{handed, text_refused, text_read, text_unsized, refused_here, some_read}
use Rattle.ledger_model.specs.Numbers.{text_of}
use Rattle.ledger.specs.Passing.{IsText, Passed, NoText}
use Rattle.ledger.proofs.checking.text.Goals as goal

pub returns-in_err-size-clause-looks : goal.returns-in_err-size-clause-looks
returns-in_err-size-clause-looks g c = λ file to can.
    let k = c.in_err-size.ensures.gives file to can in
    (k.0, handed c.from_residual.result c.in_err-size.field-0.0 _ _ c.from_residual.ensures.1 (text_unsized _ file to _ _ k.1))

pub returns-in-Ok-true-clause-looks : goal.returns-in-Ok-true-clause-looks
returns-in-Ok-true-clause-looks g c = λ file to can.
    let k = c.in_ok-size.ensures.gives file to can in
    let p = c.in-Ok-true.ensures.passes file to k.0 in
    let passed : Passed c.args.kind file to c.word.new.self.at c.pass.new.reader.at c.from.result = rw c.in-Ok-true.field-0-test at p.1 in
    (p.0, some_read (text_of (IsText c.args.kind)) file to _ _ passed.text (text_read _ file to _ _ _ _ passed.text k.1 passed.stood (omega (arith, passed.size_is, c.from.ensures)) passed.is))

pub returns-in-Ok-false-clause-looks : goal.returns-in-Ok-false-clause-looks
returns-in-Ok-false-clause-looks g c = λ file to can.
    let k = c.in_ok-size.ensures.gives file to can in
    let p = c.in-Ok-false.ensures.passes file to k.0 in
    let none : NoText c.args.kind file to c.word.new.self.at c.from.result = rw c.in-Ok-false.field-0-test at p.1 in
    (p.0, refused_here (text_of (IsText c.args.kind)) file to c.args.reader.now.at c.place-place.result c.damaged.result c.damaged.ensures c.place-place.ensures (text_refused _ file to _ _ _ k.1 (λ text more size. none text more (omega (arith, size, c.from.ensures)))))

pub returns-in-Err-clause-looks : goal.returns-in-Err-clause-looks
returns-in-Err-clause-looks g c = λ file to can.
    let k = c.in_ok-size.ensures.gives file to can in ((c.pass.ensures.passes file to k.0).0, tt)
