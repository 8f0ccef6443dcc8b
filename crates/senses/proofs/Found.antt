-- What is found in lists that are read through a view.
use Rattle.std.proofs.Common.{◌≡◌, ℕ, ◌+◌, Bool, true, false, not, ◌||◌, List, [], ◌∷◌, map, Option, Some, None, option_map, refl, ap, ap₂, cond}
use Rattle.std.proofs.lemmas.List.{length-map}
use Rattle.std.specs.List.{find, list_any, position, prefix_len}
use Rattle.std.specs.Prelude.{nat_lt}

module _ {A B : Type 0} (p : B → Bool) (f : A → B) where
  found_head : (b : Bool) (x : A) (r : Option B) (s : Option A) → r ≡ option_map f s → cond b (Some (f x)) r ≡ option_map f (cond b (Some x) s)
  found_head true x r s is = refl
  found_head false x r s is = is

  pub find_map : (xs : List A) → find p (map f xs) ≡ option_map f (find (λ x. p (f x)) xs)
  find_map [] = refl
  find_map (x ∷ xs) = found_head (p (f x)) x _ _ (find_map xs)

  pub any_map : (xs : List A) → list_any p (map f xs) ≡ list_any (λ x. p (f x)) xs
  any_map [] = refl
  any_map (x ∷ xs) = ap (λ (b : Bool). p (f x) || b) (any_map xs)

module _ {A B : Type 0} (p : B → Bool) (f : A → B) where
  prefix_map : (xs : List A) → prefix_len p (map f xs) ≡ prefix_len (λ x. p (f x)) xs
  prefix_map [] = refl
  prefix_map (x ∷ xs) = ap (λ (n : ℕ). cond (p (f x)) (1 + n) 0) (prefix_map xs)

pub position_map : {A B : Type 0} (p : B → Bool) (f : A → B) (xs : List A) → position p (map f xs) ≡ position (λ x. p (f x)) xs
position_map p f xs = ap₂ (λ (n m : ℕ). cond (nat_lt n m) (Some n) None) (prefix_map (λ y. not (p y)) f xs) (length-map xs f)

pub mapped_twice : {A B D : Type 0} (f : A → B) (g : B → D) (o : Option A) → option_map (λ a. g (f a)) o ≡ option_map g (option_map f o)
mapped_twice f g None = refl
mapped_twice f g (Some a) = refl
