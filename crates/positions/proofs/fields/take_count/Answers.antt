use Rattle.std.proofs.Common.{rules, arith}
use Rattle.ledger_model.specs.Numbers.{u32_bytes}
use Rattle.ledger_model.proofs.Fields.{u32_length}
use Rattle.ledger.proofs.Composing.{handed, short_field, read_u32}
use Rattle.positions.proofs.fields.take_count.Goals as goal

pub returns-in_err-take-clause-gives : goal.returns-in_err-take-clause-gives
returns-in_err-take-clause-gives g c = λ file to can.
    let k = c.in_err-take.ensures.reads file to can in
    (k.0, handed c.from_residual.result c.in_err-take.field-0.0 _ _ c.from_residual.ensures.1 (short_field _ u32_bytes 4 (λ n fits. omega (arith, u32_length n)) file to _ _ k.1))

pub returns-clause-gives : goal.returns-clause-gives
returns-clause-gives g c = λ file to can. let k = c.in_ok-take.ensures.reads file to can in
    (k.0, read_u32 _ file to _ _ c.take.new.into c.from_le_bytes.result (search rules) c.take.ensures.low c.from_le_bytes.ensures (omega arith) k.1)
