use Rattle.std.proofs.Common.{◌≡◌, ℕ, false, sym, ◌∙◌, subst}
use Rattle.std.specs.Prelude.{◌==◌}
use Rattle.std.specs.List.{list_any}
use Rattle.ledger.proofs.Comparing.{new_by_hash}
use Rattle.ledger.proofs.placing.is_known.Goals as goal

pub returns-then-not-contains-clause-compares : goal.returns-then-not-contains-clause-compares
returns-then-not-contains-clause-compares g c = λ file holds at some has.
    let none : list_any (λ (h : ℕ). h == c.args.hash) c.args.seen.now ≡ false = sym c.contains.ensures.value ∙ c.if-not-contains.true in
    new_by_hash some.items c.args.seen.now c.args.name.now has (subst (λ (n : ℕ). list_any (λ (h : ℕ). h == n) c.args.seen.now ≡ false) c.requires none)

pub returns-clause-compares : goal.returns-clause-compares
returns-clause-compares g c = λ file holds at some has. c.is_taken.ensures.compares file holds at some
