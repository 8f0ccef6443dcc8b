use Rattle.positions.proofs.Puts.{puts}
use Rattle.positions.proofs.places.put.Goals as goal

pub returns-in-Ok : goal.returns-in-Ok
returns-in-Ok c = puts c.copy.result c.args.identity.now c.args.place c.args.places.now.entries c.insert.new.self.entries c.copy.ensures c.in-Ok.ensures.updates.0
