use Rattle.std.proofs.Common.{ap, ◌∙◌}
use Rattle.lp_time.specs.Readings.{pattern_part}
use Rattle.slot_reading.specs.Slots.{or_null}
use Rattle.slot_reading.specs.Stamps.{stamp_value}
use Rattle.slot_reading.proofs.StampLemmas.{stamp_value-at}
use Rattle.lp_functions.proofs.moments.read_by.Goals as goal

pub returns-in-Some : goal.returns-in-Some
returns-in-Some c =
    let part = pattern_part c.in-Ok.pattern in
    rw c.in-Ok.ensures.ok (stamp_value-at c.in-Some.stamp part c.in-Some.ensures.part ∙ ap (or_null (stamp_value part)) c.in-Some.ensures.seconds)
