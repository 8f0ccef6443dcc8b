use Rattle.column_kinds.proofs.Answered.{if_ok}
use Rattle.sampled_groups.proofs.making.GroupMakerMakerGroupTaker.make.Goals as goal

pub returns-in-Ok-clause-makes : goal.returns-in-Ok-clause-makes
returns-in-Ok-clause-makes g c = if_ok _ _ c.taker_into.result (λ taker ready. record { plan = c.in-Ok.plan; planned = c.in-Ok.ensures.planned; ready = ready }) c.taker_into.ensures.ready
