use Rattle.lp_time.proofs.DigitLemmas.{few_step}
use Rattle.lp_time.proofs.taking.number_of.Goals as goal

pub loop-byte-preserved : goal.loop-byte-preserved
loop-byte-preserved c =
    let so_far = c.loop-byte.invariant in
    rw c.from.ensures (few_step c.args.digits.now c.loop-byte.byte-index c.loop-byte.number c.requires.digits c.loop-byte-test.true so_far.0 so_far.1)
