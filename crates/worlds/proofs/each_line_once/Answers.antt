use Rattle.worlds.proofs.Steps.{reached_stands, reached_seen}
use Rattle.worlds.proofs.each_line_once.Goals as goal

pub returns-clause-images : goal.returns-clause-images
returns-clause-images g c = λ setting events world image reached is. reached_stands g.D.Disk.state (λ disk honest. (g.met.D.Disk.rules disk).seen_left honest) g.M.Query.meaning setting events world reached image is

pub returns-clause-seen : goal.returns-clause-seen
returns-clause-seen g c = λ setting events world reached. reached_seen g.D.Disk.state (λ disk honest. (g.met.D.Disk.rules disk).seen_left honest) g.M.Query.meaning setting events world reached
