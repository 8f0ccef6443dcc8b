use Rattle.std.proofs.Common.{arith}
use Rattle.lp_functions.proofs.DigitLemmas.{digit_step, digit_below}
use Rattle.lp_functions.proofs.addresses.number_of.Goals as goal

pub loop-digit-preserved : goal.loop-digit-preserved
loop-digit-preserved c =
    let so_far = c.loop-digit.invariant in
    rw c.from.ensures
    (record {
      value = digit_step c.args.digits.now c.loop-digit.digit-index c.loop-digit.number c.requires.digits (omega arith) so_far.value;
      below = digit_below c.args.digits.now c.loop-digit.digit-index c.loop-digit.number c.requires.digits (omega arith) so_far.below;
    })
