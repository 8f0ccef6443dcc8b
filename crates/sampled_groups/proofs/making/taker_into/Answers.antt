use Rattle.std.proofs.Common.{IfOk, subst}
use Rattle.row_output.specs.Asked.{Asked}
use Rattle.sampled_groups.specs.Made.{IsReady}
use Rattle.sampled_groups.proofs.making.taker_into.Goals as goal

pub returns-in-Ok-clause-ready : goal.returns-in-Ok-clause-ready
returns-in-Ok-clause-ready c = subst (λ (asked : Asked). IfOk c.taker_over.result (IsReady c.args.pattern.now c.args.told c.args.plan asked)) c.in-Ok.ensures.asked c.taker_over.ensures.ready
