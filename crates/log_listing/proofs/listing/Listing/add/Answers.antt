use Rattle.std.proofs.Common.{◌++◌, ◌∷◌, [], ap, sym, ◌∙◌, List, ℕ}
use Rattle.log_listing.proofs.FirstNames.{knows_pushed}
use Rattle.log_listing.proofs.listing.Listing.add.Goals as goal

pub returns-clause-knows : goal.returns-clause-knows
returns-clause-knows c =
    let names = c.args.self.now.names in
    knows_pushed c.args.self.now.seen c.insert.new.self names c.push.new.self c.copy.result c.in_ok-insert.field-0 c.in_ok-insert.ensures.updates.0 c.requires.knows c.in_ok-insert.ensures.added c.if-not-branch.false
    (c.in_ok-push.ensures.ok ∙ ap (λ (n : List ℕ). names ++ n ∷ []) (c.copy-2.ensures ∙ sym c.copy.ensures))
