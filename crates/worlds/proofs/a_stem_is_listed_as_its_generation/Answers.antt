use Rattle.worlds.proofs.Live.{live_setting}
use Rattle.worlds.proofs.a_stem_is_listed_as_its_generation.Goals as goal

pub returns : goal.returns
returns g c = λ setting asked logs disk entries files stem count listed by may recovers settled is l.
    live_setting g.M.Query.meaning setting asked logs (g.D.Disk.state disk) entries files stem count listed by ((g.met.D.Disk.rules disk).seen_left may.honest) may recovers settled is l
