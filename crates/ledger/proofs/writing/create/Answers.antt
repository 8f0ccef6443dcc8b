use Rattle.std.proofs.Common.{arith}
use Rattle.disk_model.specs.Disk.{At, Torn}
use Rattle.disk_model.proofs.DiskSteps.{Works-rests}
use Rattle.ledger.proofs.Begun.{front_works, front_shows, shows_rests}
use Rattle.ledger.proofs.writing.create.Goals as goal

pub returns-in_err-write_at-clause-crash : goal.returns-in_err-write_at-clause-crash
returns-in_err-write_at-clause-crash g c = λ honest. front_works _ _ c.args.ledger.now 18 _ _ (omega arith) (omega arith) (c.write_at.ensures.crash honest)

pub returns-in_err-write_at-clause-shows : goal.returns-in_err-write_at-clause-shows
returns-in_err-write_at-clause-shows g c = λ tells. front_shows _ _ c.args.ledger.now 18 _ _ (omega arith) (omega arith) (c.write_at.ensures.shows tells)

pub returns-clause-crash : goal.returns-clause-crash
returns-clause-crash g c = λ honest.
    let wrote = front_works _ _ c.args.ledger.now 18 _ _ (omega arith) (omega arith) (c.write_at.ensures.crash honest) in
    Works-rests (At c.args.ledger.now (Torn 0 18)) _ _ _ wrote (c.sync.ensures.crash wrote.honest)

pub returns-clause-shows : goal.returns-clause-shows
returns-clause-shows g c = λ tells.
    let wrote = front_shows _ _ c.args.ledger.now 18 _ _ (omega arith) (omega arith) (c.write_at.ensures.shows tells) in
    shows_rests (At c.args.ledger.now (Torn 0 18)) _ _ _ wrote (c.sync.ensures.shows wrote.tells)
