use Rattle.std.proofs.Common.{FitsSigned, w64, ap, ◌∙◌}
use Rattle.std.proofs.lemmas.Int.{to_z-of_z}
use Rattle.slot_reading.specs.Slots.{or_null}
use Rattle.slot_reading.specs.Stamps.{stamp_value}
use Rattle.slot_reading.proofs.StampLemmas.{stamp_value-at}
use Rattle.lp_functions.proofs.numbers.quantized_stamp.Goals as goal

pub returns-in-Some : goal.returns-in-Some
returns-in-Some c =
    let part = c.args.stamp.part in
    let range : FitsSigned w64 c.args.step = c.ranges.step in
    let seconds = simp to_z-of_z at c.in-Some.ensures.seconds in
    stamp_value-at c.in-Some.stamp part c.in-Some.ensures.part ∙ ap (or_null (stamp_value part)) seconds
