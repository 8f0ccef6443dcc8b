use Rattle.std.proofs.Common.{ap, ◌∙◌}
use Rattle.lp_values.specs.declared.part.Part.TheVariants.{Date}
use Rattle.slot_reading.specs.Stamps.{stamp_value}
use Rattle.slot_reading.proofs.StampLemmas.{stamp_value-at}
use Rattle.lp_functions.proofs.moments.to_date.Goals as goal

pub returns-in-Stamp : goal.returns-in-Stamp
returns-in-Stamp c = rw c.in-Stamp.is (stamp_value-at c.to_date.result Date c.to_date.ensures.part ∙ ap (stamp_value Date) c.to_date.ensures.seconds)
