use Rattle.std.proofs.Common.{◌∙◌}
use Rattle.lp_values.proofs.ReadingLemmas.{number_step}
use Rattle.lp_values.proofs.reading.number_of.Goals as goal

pub loop-byte-preserved : goal.loop-byte-preserved
loop-byte-preserved c =
    let step = number_step c.args.digits.now c.loop-byte.byte-index c.loop-byte.number c.requires c.loop-byte-test.true c.loop-byte.invariant in
    c.saturating_add-number.ensures ∙ rw (c.saturating_mul.ensures, c.from.ensures) step
