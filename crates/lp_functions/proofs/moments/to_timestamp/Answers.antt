use Rattle.std.proofs.Common.{ap, ◌∙◌}
use Rattle.lp_values.specs.declared.part.Part.TheVariants.{Both}
use Rattle.slot_reading.specs.Stamps.{stamp_value}
use Rattle.slot_reading.proofs.StampLemmas.{stamp_value-at}
use Rattle.lp_functions.proofs.moments.to_timestamp.Goals as goal

pub returns-in-Stamp-Stamp : goal.returns-in-Stamp-Stamp
returns-in-Stamp-Stamp c = rw (c.in-Stamp-Stamp.is-0, c.in-Stamp-Stamp.is-1) (stamp_value-at c.join_date_time.result Both c.join_date_time.ensures.part ∙ ap (stamp_value Both) c.join_date_time.ensures.seconds)
