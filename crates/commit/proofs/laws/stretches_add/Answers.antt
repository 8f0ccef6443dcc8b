use Rattle.commit.proofs.Composing.{preserves_on, either_on}
use Rattle.commit.proofs.laws.stretches_add.Goals as goal

pub returns-clause-preserves : goal.returns-clause-preserves
returns-clause-preserves g c = λ entries files same f s. preserves_on g.D.Disk.state g.met.D.Disk.only_now g.met.D.Disk.seen_left c.args.first.now c.args.second.now c.args.third.now entries files same f s

pub returns-clause-either : goal.returns-clause-either
returns-clause-either g c = λ entries entry before after same f s. either_on g.D.Disk.state g.met.D.Disk.only_now g.met.D.Disk.seen_left c.args.first.now c.args.second.now c.args.third.now entries entry before after same f s
