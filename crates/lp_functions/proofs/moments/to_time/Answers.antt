use Rattle.std.proofs.Common.{ap, ◌∙◌}
use Rattle.lp_values.specs.declared.part.Part.TheVariants.{Time}
use Rattle.slot_reading.specs.Stamps.{stamp_value}
use Rattle.slot_reading.proofs.StampLemmas.{stamp_value-at}
use Rattle.lp_functions.proofs.moments.to_time.Goals as goal

pub returns-in-Stamp : goal.returns-in-Stamp
returns-in-Stamp c = rw c.in-Stamp.is (stamp_value-at c.to_time.result Time c.to_time.ensures.part ∙ ap (stamp_value Time) c.to_time.ensures.seconds)
