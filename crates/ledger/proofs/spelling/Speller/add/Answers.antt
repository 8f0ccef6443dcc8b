use Rattle.ledger.proofs.Spelled.{goes_none, spells_held}
use Rattle.ledger.proofs.spelling.Speller.add.Goals as goal

pub returns-clause-goes : goal.returns-clause-goes
returns-clause-goes g c = goes_none (g.D.Disk.state c.args.disk.now) c.args.ledger.now c.args.self.now c.hold.new.self c.hold.ensures.at

pub returns-clause-spells : goal.returns-clause-spells
returns-clause-spells g c = spells_held (g.D.Disk.state c.args.disk.now) c.args.ledger.now c.args.self.now c.hold.new.self c.args.bytes.now c.hold.ensures.at c.hold.ensures.count c.hold.ensures.ahead
