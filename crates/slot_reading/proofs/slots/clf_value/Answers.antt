use Rattle.std.proofs.Common.{ap, ◌∙◌}
use Rattle.lp_values.specs.declared.part.Part.TheVariants.{Both}
use Rattle.slot_reading.specs.Slots.{or_null}
use Rattle.slot_reading.specs.Stamps.{stamp_value}
use Rattle.slot_reading.proofs.StampLemmas.{stamp_value-at}
use Rattle.slot_reading.proofs.slots.clf_value.Goals as goal

pub returns-in-Some : goal.returns-in-Some
returns-in-Some c = stamp_value-at c.in-Some.stamp Both c.in-Some.ensures.part ∙ ap (or_null (stamp_value Both)) c.in-Some.ensures.seconds
