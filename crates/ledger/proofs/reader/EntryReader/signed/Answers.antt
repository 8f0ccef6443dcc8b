use Rattle.std.proofs.Common.{ℤ, ap, ◌∙◌}
use Rattle.std.specs.Int.{cast_signed, cast_unsigned, w64}
use Rattle.std.proofs.lemmas.Int.{of_z-to_z}
use Rattle.ledger.proofs.Composing.{handed, signed_read, signed_refused}
use Rattle.ledger.proofs.reader.EntryReader.signed.Goals as goal

pub returns-in_err-bits-clause-gives : goal.returns-in_err-bits-clause-gives
returns-in_err-bits-clause-gives g c = λ file to can.
    let k = c.in_err-bits.ensures.gives file to can in
    (k.0, handed c.from_residual.result c.in_err-bits.field-0.0 _ _ c.from_residual.ensures.1 (signed_refused file to _ _ k.1))

pub returns-clause-gives : goal.returns-clause-gives
returns-clause-gives g c = λ file to can.
    let k = c.in_ok-bits.ensures.gives file to can in
    (k.0, signed_read file to _ _ c.in_ok-bits.bits _ (ap (λ (x : ℤ). cast_signed w64 (cast_unsigned w64 x)) c.cast_signed.ensures ∙ ap (cast_signed w64) (of_z-to_z w64 c.in_ok-bits.bits k.1.fits)) k.1)
