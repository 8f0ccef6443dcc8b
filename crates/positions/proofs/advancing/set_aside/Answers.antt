use Rattle.std.proofs.Common.{sym, subst, ◌≡◌, List, ℕ, None}
use Rattle.positions.proofs.Puts.{same_aside, none_from, found_in}
use Rattle.positions.proofs.advancing.set_aside.Goals as goal

pub returns-in-Ok-clause-same : goal.returns-in-Ok-clause-same
returns-in-Ok-clause-same c =
    let old = c.args.places.now.entries in
    let none = none_from (found_in old c.args.identity.now) c.contains_key.result c.contains_key.ensures c.if-contains_key.false in
    same_aside c.copy.result old c.insert.new.self.entries (subst (λ (k : List ℕ). found_in old k ≡ None) (sym c.copy.ensures) none) c.in-Ok.ensures.updates.0
