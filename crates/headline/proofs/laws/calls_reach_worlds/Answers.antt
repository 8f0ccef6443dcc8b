use Rattle.headline.proofs.Turning.{reached_turned}
use Rattle.headline.proofs.laws.calls_reach_worlds.Goals as goal

pub returns : goal.returns
returns g c = λ setting calls world reached. reached_turned g.D.Disk.state g.met.D.Disk.seen_left g.met.D.Disk.only_now setting calls world reached
