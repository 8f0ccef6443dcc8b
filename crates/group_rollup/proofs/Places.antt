-- Items at places.
use Rattle.std.proofs.Common.{◌≡◌, ℕ, zero, suc, List, [], ◌∷◌, ◌++◌, map, length, get_or, slice_get, slice_set, Option, Some, None, is_some, refl, sym, ◌∙◌, ap, true≢false}
use denote.Bor.{Bor}
use Rattle.lp_values.specs.declared.value.Value.{Value}
use Rattle.lp_values.specs.declared.value.Value.TheVariants.{Null}
use Rattle.std.specs.Option.{MatchOption, option_copied}
use Rattle.std.proofs.lemmas.List.{map-set}
use Rattle.std.proofs.Math.ListN.{get_or-map}
use Rattle.group_rollup.proofs.FirstsLemmas.{none_some, same_some}

pub get_none : {A : Type 0} (xs : List A) (i : ℕ) (d : A) → slice_get xs i ≡ None → get_or xs i d ≡ d
get_none [] i d e = refl
get_none (x ∷ xs) zero d e = absurd (true≢false (ap is_some e))
get_none (x ∷ xs) (suc i) d e = get_none xs i d e

pub get_found : {A : Type 0} (xs : List A) (i : ℕ) (d x : A) → slice_get xs i ≡ Some x → get_or xs i d ≡ x
get_found [] i d x e = absurd (none_some x e)
get_found (y ∷ xs) zero d x e = same_some y x e
get_found (y ∷ xs) (suc i) d x e = get_found xs i d x e

pub looked_up : (xs : List Value) (i : ℕ) (r : Option (Bor Value)) → option_copied r ≡ slice_get xs i → MatchOption r (get_or xs i Null ≡ Null) (λ v. get_or xs i Null ≡ v.now)
looked_up xs i None e = get_none xs i Null (sym e)
looked_up xs i (Some v) e = get_found xs i Null v.now (sym e)

-- a step at one place of a list that is worked out from lists is that list with one of them longer
pub at_place : {A B : Type 0} (h : List A → B) (step : B → B) (groups : List (List A)) (i : ℕ) (more : List A) → step (h (get_or groups i [])) ≡ h (get_or groups i [] ++ more)
    → slice_set (map h groups) i (step (get_or (map h groups) i (h []))) ≡ map h (slice_set groups i (get_or groups i [] ++ more))
at_place h step groups i more e =
    ap (λ b. slice_set (map h groups) i (step b)) (get_or-map h groups i [])
    ∙ (ap (slice_set (map h groups) i) e ∙ sym (map-set h groups i (get_or groups i [] ++ more)))

pub past_end : {A : Type 0} (groups : List (List A)) → get_or groups (length groups) [] ≡ []
past_end [] = refl
past_end (g ∷ groups) = past_end groups

pub at_end : {A : Type 0} (groups : List (List A)) → get_or (groups ++ [] ∷ []) (length groups) [] ≡ []
at_end [] = refl
at_end (g ∷ groups) = at_end groups

pub set_end : {A : Type 0} (xs : List A) (x y : A) → slice_set (xs ++ x ∷ []) (length xs) y ≡ xs ++ y ∷ []
set_end [] x y = refl
set_end (z ∷ xs) x y = ap (λ t. z ∷ t) (set_end xs x y)
