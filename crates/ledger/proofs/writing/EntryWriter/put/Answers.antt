use Rattle.std.proofs.Common.{ap, arith}
use Rattle.ledger.specs.Writer.{Written}
use Rattle.disk_changes.proofs.Fronts.{one_write_keeps}
use Rattle.disk_changes.proofs.Showing.{shows_any}
use Rattle.ledger.proofs.writing.EntryWriter.put.Goals as goal

pub returns-in_err-write_at-clause-crash : goal.returns-in_err-write_at-clause-crash
returns-in_err-write_at-clause-crash g c = λ honest there.
    one_write_keeps _ _ c.args.ledger.now c.args.self.now.at _ _ there (omega (arith, ap (λ (w : Written). w.at) c.self.view_is)) (c.write_at.ensures.crash honest)

pub returns-in_err-write_at-clause-shows : goal.returns-in_err-write_at-clause-shows
returns-in_err-write_at-clause-shows g c = λ tells. shows_any _ _ _ _ (c.write_at.ensures.shows tells)

pub returns-clause-crash : goal.returns-clause-crash
returns-clause-crash g c = λ honest there.
    one_write_keeps _ _ c.args.ledger.now c.args.self.now.at _ _ there (omega (arith, ap (λ (w : Written). w.at) c.self.view_is)) (c.write_at.ensures.crash honest)

pub returns-clause-shows : goal.returns-clause-shows
returns-clause-shows g c = λ tells. shows_any _ _ _ _ (c.write_at.ensures.shows tells)
