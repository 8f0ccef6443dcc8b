use Rattle.order_top.proofs.Mirroring.{forgotten}
use Rattle.order_top.proofs.first_distinct.forget.Goals as goal

pub returns-in-Some : goal.returns-in-Some
returns-in-Some c = λ q. forgotten q c.args.row c.in-Some.row c.in-Some.is c.args.seen.now.keys c.swap_remove.new.self.keys (c.swap_remove.ensures.updates.0 q)
