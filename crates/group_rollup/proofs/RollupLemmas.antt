-- The shorter lists of keys of the groups are those of the records.
use Rattle.std.proofs.Common.{◌≡◌, Bool, true, false, not, cond, List, [], ◌∷◌, map, filter, refl, sym, ◌∙◌, ap}
use Rattle.lp_values.specs.declared.value.Value.{Value}
use Rattle.group_rollup.specs.Groups.{is_same, firsts}
use Rattle.group_rollup.proofs.FirstsLemmas.{laws, is}

-- all but this one
abbrev pub without : List Value → List (List Value) → List (List Value)
without key keys = filter (λ k. not (is_same key k)) keys

two_by : (p q : List Value → Bool) (x : List Value) (xs : List (List Value)) (a b : Bool) → p x ≡ a → q x ≡ b → filter p (filter q xs) ≡ filter q (filter p xs)
    → filter p (cond b (x ∷ filter q xs) (filter q xs)) ≡ filter q (cond a (x ∷ filter p xs) (filter p xs))
two_by p q x xs true true h k e = (λ i. cond (h i) (x ∷ filter p (filter q xs)) (filter p (filter q xs))) ∙ (ap (λ t. x ∷ t) e ∙ sym (λ i. cond (k i) (x ∷ filter q (filter p xs)) (filter q (filter p xs))))
two_by p q x xs true false h k e = e ∙ sym (λ i. cond (k i) (x ∷ filter q (filter p xs)) (filter q (filter p xs)))
two_by p q x xs false true h k e = (λ i. cond (h i) (x ∷ filter p (filter q xs)) (filter p (filter q xs))) ∙ e
two_by p q x xs false false h k e = e

swapped : (p q : List Value → Bool) (xs : List (List Value)) → filter p (filter q xs) ≡ filter q (filter p xs)
swapped p q [] = refl
swapped p q (x ∷ xs) = two_by p q x xs (p x) (q x) refl refl (swapped p q xs)

twice_by : (p : List Value → Bool) (x : List Value) (xs : List (List Value)) (a : Bool) → p x ≡ a → filter p (filter p xs) ≡ filter p xs → filter p (cond a (x ∷ filter p xs) (filter p xs)) ≡ cond a (x ∷ filter p xs) (filter p xs)
twice_by p x xs true h e = (λ i. cond (h i) (x ∷ filter p (filter p xs)) (filter p (filter p xs))) ∙ ap (λ t. x ∷ t) e
twice_by p x xs false h e = e

twice : (p : List Value → Bool) (xs : List (List Value)) → filter p (filter p xs) ≡ filter p xs
twice p [] = refl
twice p (x ∷ xs) = twice_by p x xs (p x) refl (twice p xs)

without_by : (a y : List Value) (ys : List (List Value)) (b : Bool) → is_same a y ≡ b → without a (firsts ys) ≡ firsts (without a ys)
    → cond (not b) (y ∷ without a (without y (firsts ys))) (without a (without y (firsts ys))) ≡ firsts (cond (not b) (y ∷ without a ys) (without a ys))
unfolding firsts
without_by a y ys true h e = ap (λ z. without a (without z (firsts ys))) (sym (is a y h)) ∙ (twice (λ k. not (is_same a k)) (firsts ys) ∙ e)
without_by a y ys false h e = ap (λ t. y ∷ t) (swapped (λ k. not (is_same a k)) (λ k. not (is_same y k)) (firsts ys) ∙ ap (without y) e)

without_firsts : (a : List Value) (ys : List (List Value)) → without a (firsts ys) ≡ firsts (without a ys)
unfolding firsts
without_firsts a [] = refl
without_firsts a (y ∷ ys) = without_by a y ys (is_same a y) refl (without_firsts a ys)

module _ (f : List Value → List Value) where
  lost_by : (k x : List Value) (xs : List (List Value)) (b : Bool) → is_same k x ≡ b → without (f k) (map f (without k xs)) ≡ without (f k) (map f xs)
      → without (f k) (map f (cond (not b) (x ∷ without k xs) (without k xs))) ≡ without (f k) (f x ∷ map f xs)
  lost_by k x xs true h e = e ∙ sym (ap (λ (c : Bool). cond (not c) (f x ∷ without (f k) (map f xs)) (without (f k) (map f xs))) (ap (λ z. is_same (f k) (f z)) (sym (is k x h)) ∙ laws.refl (f k)))
  lost_by k x xs false h e = ap (λ t. cond (not (is_same (f k) (f x))) (f x ∷ t) t) e

  lost : (k : List Value) (xs : List (List Value)) → without (f k) (map f (without k xs)) ≡ without (f k) (map f xs)
  lost k [] = refl
  lost k (x ∷ xs) = lost_by k x xs (is_same k x) refl (lost k xs)

  -- what is made of each list once, each once, is what is made of all lists, each once
  pub firsts_of_firsts : (ks : List (List Value)) → firsts (map f (firsts ks)) ≡ firsts (map f ks)
  unfolding firsts
  firsts_of_firsts [] = refl
  firsts_of_firsts (k ∷ ks) = ap (λ t. f k ∷ t)
      (without_firsts (f k) (map f (without k (firsts ks)))
      ∙ (ap firsts (lost k (firsts ks))
      ∙ (sym (without_firsts (f k) (map f (firsts ks))) ∙ ap (without (f k)) (firsts_of_firsts ks))))
