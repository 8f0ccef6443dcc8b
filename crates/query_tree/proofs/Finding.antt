-- What was given for a place.
use Rattle.std.proofs.Common.{◌≡◌, ◌∙◌, ◌==◌, ℕ, Bool, true, false, List, [], ◌∷◌, map, Option, None, Some, option_map, refl, sym, ap, inl, inr}
use Rattle.std.proofs.lemmas.Bool.{cases_Bool}
use Rattle.std.specs.List.{find}
use Rattle.grammar.specs.Filled.{given_at}
use Rattle.grammar.specs.Trees.{Given}
use Rattle.query_tree.specs.declared.given.PlacedGiven.{PlacedGiven}
use Rattle.query_tree.specs.Views.{given_of, placed_given}

pub found_at : (givens : List PlacedGiven) (at : ℕ) → option_map (λ one. given_of one.given) (find (λ one. one.at == at) givens) ≡ given_at (map placed_given givens) at
found_at [] at = refl
found_at (one ∷ givens) at = elim (cases_Bool (one.at == at)) [
  | inl here ↦ rw here refl
  | inr other ↦ rw other (found_at givens at)
]
