use Rattle.std.proofs.Common.{refl}
use Rattle.positions.proofs.Puts.{puts}
use Rattle.positions.proofs.Leaving.{ok_or, not_absent}
use Rattle.positions.proofs.advancing.replace.Goals as goal

pub returns-clause-puts : goal.returns-clause-puts
returns-clause-puts c =
    let old = c.args.places.now.entries in
    let new = c.insert.new.self.entries in
    let identity = c.args.left.identity in
    puts identity identity c.args.left.place old new refl (ok_or _ _ c.insert.result c.insert.ensures.updates c.insert.ensures.absent (not_absent old identity c.requires)).0
