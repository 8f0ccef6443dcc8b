use Rattle.std.proofs.Common.{rules, refl, arith}
use Rattle.ledger_model.specs.Numbers.{u8_bytes}
use Rattle.ledger.proofs.Composing.{handed, short_field, read_u8}
use Rattle.ledger.proofs.reader.EntryReader.byte.Goals as goal

pub returns-in_err-take-clause-gives : goal.returns-in_err-take-clause-gives
returns-in_err-take-clause-gives g c = λ file to can.
    let k = c.in_err-take.ensures.reads file to can in
    (k.0, handed c.from_residual.result c.in_err-take.field-0.0 _ _ c.from_residual.ensures.1 (short_field _ u8_bytes 1 (λ n fits. omega arith) file to _ _ k.1))

pub returns-clause-gives : goal.returns-clause-gives
returns-clause-gives g c = λ file to can. let k = c.in_ok-take.ensures.reads file to can in
    (k.0, read_u8 file to _ _ c.take.new.into _ (search rules) refl (c.take.ensures.low 0) k.1)
