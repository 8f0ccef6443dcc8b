use Rattle.worlds.proofs.Good.{fit_stands}
use Rattle.worlds.proofs.Steps.{run_step, call_fits}
use Rattle.worlds.proofs.run_keeps.Goals as goal

pub returns-clause-kept : goal.returns-clause-kept
returns-clause-kept g c = λ setting asked ending before after old new good r. run_step g.M.Query.meaning setting asked ending before after (g.D.Disk.state old) (g.D.Disk.state new) good ((g.met.D.Disk.rules old).seen_left good.honest) r

pub returns-clause-any_moment : goal.returns-clause-any_moment
returns-clause-any_moment g c = λ setting asked ending before after old new image good r of.
    fit_stands g.M.Query.meaning setting after image (run_step g.M.Query.meaning setting asked ending before after (g.D.Disk.state old) (g.D.Disk.state new) good ((g.met.D.Disk.rules old).seen_left good.honest) r).are_good
    (call_fits g.M.Query.meaning setting asked ending before after (g.D.Disk.state old) (g.D.Disk.state new) good ((g.met.D.Disk.rules old).seen_left good.honest) r image of)
