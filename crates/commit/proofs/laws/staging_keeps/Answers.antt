use Rattle.commit.proofs.Composing.{goes_keeps}
use Rattle.commit.proofs.laws.staging_keeps.Goals as goal

pub returns : goal.returns
returns g c = λ entries files goes is. goes_keeps g.D.Disk.state g.met.D.Disk.only_now g.met.D.Disk.seen_left c.args.old.now c.args.new.now entries files goes is
