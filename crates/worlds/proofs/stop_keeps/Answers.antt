use Rattle.worlds.proofs.Steps.{stop_in_step, stop_step}
use Rattle.worlds.proofs.stop_keeps.Goals as goal

pub returns-clause-within : goal.returns-clause-within
returns-clause-within g c = λ setting asked ending before after old new good s. stop_in_step g.D.Disk.state g.M.Query.meaning setting asked ending before after old new good ((g.met.D.Disk.rules old).seen_left good.honest) s

pub returns-clause-between : goal.returns-clause-between
returns-clause-between g c = λ setting logs old new good s. stop_step g.M.Query.meaning setting logs (g.D.Disk.state old) (g.D.Disk.state new) good s
