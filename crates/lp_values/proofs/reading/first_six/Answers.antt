use Rattle.lp_values.proofs.ReadingLemmas.{six_step}
use Rattle.lp_values.proofs.reading.first_six.Goals as goal

pub loop-place-preserved : goal.loop-place-preserved
loop-place-preserved c =
    let so_far = c.loop-place.invariant in
    rw c.from.ensures (six_step c.args.text.now c.loop-place.place c.loop-place.number c.digit_at.result c.loop-place-test.true so_far.0 so_far.1 c.digit_at.ensures.value c.digit_at.ensures.digit)
