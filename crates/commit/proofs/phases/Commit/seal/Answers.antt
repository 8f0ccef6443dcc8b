use Rattle.std.proofs.Common.{arith, length}
use Rattle.ledger_model.specs.Grammar.{payload_of}
use Rattle.ledger.specs.Written.{entry_of}
use Rattle.commit.proofs.Places.{place_behind}
use Rattle.commit.proofs.phases.Commit.seal.Goals as goal

pub returns-clause-sealed : goal.returns-clause-sealed
returns-clause-sealed g c = λ entries before after settled staged. (c.in_ok-seal.ensures.sealed entries before after settled staged, place_behind c.args.self.now.place (length (payload_of (entry_of c.args.entry.now))) _ c.size-size.ensures staged.good.size)

pub returns-clause-small : goal.returns-clause-small
returns-clause-small g c =
    let bound = c.in_ok-seal.ensures.bound in
    omega (arith, bound)

pub returns-clause-behind : goal.returns-clause-behind
returns-clause-behind g c =
    let bound = c.in_ok-seal.ensures.bound in
    place_behind c.args.self.now.place (length (payload_of (entry_of c.args.entry.now))) _ c.size-size.ensures (omega (arith, bound))
