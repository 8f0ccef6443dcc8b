use Rattle.std.proofs.Common.{Option, subst}
use Rattle.std.specs.Prelude.{IfSome}
use Rattle.ledger.specs.declared.walking.End.{End}
use Rattle.ledger.proofs.Resting.{rests_holds, rests_none}
use Rattle.commit.specs.Known.{HasEnd, IsLow}
use Rattle.commit.proofs.Known.{walked_low}
use Rattle.commit.proofs.settling.find_end.Goals as goal

pub returns-in-Some-clause-finds : goal.returns-in-Some-clause-finds
returns-in-Some-clause-finds g c = λ earlier file since holds. subst (λ (k : Option End). IfSome k (HasEnd (g.D.Disk.state earlier) c.args.ledger.now)) c.in-Some.is since.ends file holds

pub returns-in-None-clause-finds : goal.returns-in-None-clause-finds
returns-in-None-clause-finds g c = λ earlier file since holds.
    c.walk.ensures.walks file (rests_holds (g.D.Disk.state earlier) (g.D.Disk.state c.args.disk.now) c.args.ledger.now file since.rests holds)

pub returns-in-Some-clause-low : goal.returns-in-Some-clause-low
returns-in-Some-clause-low g c = subst (λ (k : Option End). IfSome k IsLow) c.in-Some.is c.requires.low

pub returns-in-None-clause-low : goal.returns-in-None-clause-low
returns-in-None-clause-low g c = walked_low c.walk.result c.walk.ensures.low c.walk.ensures.last

pub returns-in-Some-clause-rests : goal.returns-in-Some-clause-rests
returns-in-Some-clause-rests g c = rests_none (g.D.Disk.state c.args.disk.now)
