use Rattle.std.proofs.Common.{◌+◌, ◌^◌, ◌<◌, ℕ, FitsSigned, w64, subst, refl, sym, ap, ◌∙◌, arith}
use Rattle.std.proofs.lemmas.Int.{to_z-of_z}
use Rattle.lp_values.specs.declared.value.Value.TheVariants as V
use Rattle.slot_reading.proofs.Numbers.{Counted, counted_more, counted_all, in_bits}
use Rattle.slot_reading.proofs.slots.digits_number.Goals as goal

pub loop-byte-preserved : goal.loop-byte-preserved
loop-byte-preserved c =
    let bytes = c.args.bytes.now in
    let i = c.loop-byte.byte-index in
    let step = counted_more bytes i c.loop-byte.number c.loop-byte.invariant c.loop-byte-test.true (sym c.is_ascii_digit.ensures.value ∙ c.if-not-is_ascii_digit.false) in
    subst (λ (n : ℕ). Counted bytes (i + 1) n) (sym (c.saturating_add-number.ensures ∙ rw (c.saturating_mul.ensures, c.from.ensures) refl)) step

pub returns : goal.returns
returns c =
    let bytes = c.args.bytes.now in
    let n = c.loop-byte.number in
    let result = c.as_integer.result in
    let small : n < 2 ^ 63 = omega (arith, c.if-number-gt-MOST.false) in
    let fits = subst (FitsSigned w64) (sym c.as_integer.ensures) (in_bits n small) in
    ap V.Int (to_z-of_z w64 result fits ∙ c.as_integer.ensures) ∙ counted_all bytes c.loop-byte.byte-index n c.loop-byte.invariant (omega (arith, c.loop-byte-test.false)) (omega (arith, c.if-bytes-eq0.false)) small
