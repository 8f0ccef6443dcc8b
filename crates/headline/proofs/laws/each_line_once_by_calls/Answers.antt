use Rattle.headline.proofs.Turning.{calls_stand, calls_seen}
use Rattle.headline.proofs.laws.each_line_once_by_calls.Goals as goal

pub returns-clause-images : goal.returns-clause-images
returns-clause-images g c = λ setting calls world image reached is. calls_stand g.D.Disk.state g.met.D.Disk.seen_left g.met.D.Disk.only_now setting calls world reached image is

pub returns-clause-seen : goal.returns-clause-seen
returns-clause-seen g c = λ setting calls world reached. calls_seen g.D.Disk.state g.met.D.Disk.seen_left g.met.D.Disk.only_now setting calls world reached
