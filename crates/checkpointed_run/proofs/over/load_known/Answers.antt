use Rattle.std.proofs.Common.{Option, subst}
use Rattle.std.specs.Prelude.{IfSome}
use Rattle.ledger.specs.declared.walking.End.{End}
use Rattle.ledger.proofs.Resting.{rests_holds}
use Rattle.commit.specs.Known.{HasEnd}
use Rattle.checkpointed_run.proofs.over.load_known.Goals as goal

pub returns-in-Some-clause-loads : goal.returns-in-Some-clause-loads
returns-in-Some-clause-loads g c = λ earlier file since holds.
    c.load_up_to.ensures.loads file (rests_holds (g.D.Disk.state earlier) (g.D.Disk.state c.args.disk.now) c.args.ledger.now file since.rests holds)
    (subst (λ (k : Option End). IfSome k (HasEnd (g.D.Disk.state earlier) c.args.ledger.now)) c.in-Some.is since.ends file holds)

pub returns-in-None-clause-loads : goal.returns-in-None-clause-loads
returns-in-None-clause-loads g c = λ earlier file since holds.
    c.load.ensures.loads file (rests_holds (g.D.Disk.state earlier) (g.D.Disk.state c.args.disk.now) c.args.ledger.now file since.rests holds)
