use Rattle.lp_values.proofs.OrderLemmas.{values_total}
use Rattle.lp_values.proofs.SameLemmas.{order_same, same_order}
use Rattle.lp_values.proofs.comparing.order.Goals as goal

pub returns-clause-total : goal.returns-clause-total
returns-clause-total c = values_total

pub returns-clause-same : goal.returns-clause-same
returns-clause-same c = (order_same c.args.a.now c.args.b.now, same_order c.args.a.now c.args.b.now)
