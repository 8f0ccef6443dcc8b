use Rattle.std.proofs.Common.{arith}
use Rattle.ledger.proofs.Sizing.{payload_length}
use Rattle.ledger.proofs.entry.Entry.size.Goals as goal

pub returns : goal.returns
returns c = omega (arith, payload_length c.args.self.now, c.texts_size.ensures, c.items_size.ensures, c.saturating_add.ensures)
