use Rattle.headline.proofs.Turning.{go_on}
use Rattle.headline.proofs.laws.calls_go_on.Goals as goal

pub returns : goal.returns
returns g c = λ setting calls old event new reached happens. go_on g.D.Disk.state setting calls old event new reached happens
