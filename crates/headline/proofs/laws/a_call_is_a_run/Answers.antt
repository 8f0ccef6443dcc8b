use Rattle.headline.proofs.Turning.{call_run, stopped_run}
use Rattle.headline.proofs.laws.a_call_is_a_run.Goals as goal

pub returns-clause-whole : goal.returns-clause-whole
returns-clause-whole g c = λ setting words moment status before after old new good called. call_run g.D.Disk.state g.met.D.Disk.seen_left g.met.D.Disk.only_now setting words moment status before after old new good called

pub returns-clause-stopped : goal.returns-clause-stopped
returns-clause-stopped g c = λ setting words moment status before after old new good stopped. stopped_run g.D.Disk.state g.met.D.Disk.seen_left g.met.D.Disk.only_now setting words moment status before after old new good stopped
