-- What is added to a buffer, field by field.
use Rattle.std.proofs.Common.{◌≡◌, ℕ, zero, suc, ◌<◌, ◌^◌, ◌/◌, ◌%◌, List, [], ◌∷◌, ◌++◌, length, take, drop, get_or, flat_map, refl, ◌∙◌, ap, append_assoc, arith}
use Rattle.std.specs.Int.{to_le_bytes, w16, w32}
use Rattle.lp_model.specs.Outside.{GrowsIn}
use Rattle.lp_model.proofs.Buffers.{grows_front, grows_later, grows_along}
use Rattle.ledger_model.specs.Layouts.{spelled}
use Rattle.ledger_model.specs.Numbers.{text_bytes}
use Rattle.line_input.proofs.Fronts.{name_item}

-- two parts
pub both_added : (old mid new first second : List ℕ) → mid ≡ old ++ first → new ≡ mid ++ second → new ≡ old ++ (first ++ second)
both_added old mid new first second m n = n ∙ ap (λ (t : List ℕ). t ++ second) m ∙ append_assoc old first second

flat_at : {X : Type 0} (f : X → List ℕ) (xs : List X) (i : ℕ) (x : X) → i < length xs → x ≡ get_or xs i x → flat_map f (take i xs) ++ (f x ++ flat_map f (drop (suc i) xs)) ≡ flat_map f xs
flat_at f [] i x lt is = absurd (omega arith)
flat_at f (y ∷ ys) zero x lt is = ap (λ z. f z ++ flat_map f ys) is
flat_at f (y ∷ ys) (suc i) x lt is = append_assoc (f y) (flat_map f (take i ys)) (f x ++ flat_map f (drop (suc i) ys)) ∙ ap (λ (t : List ℕ). f y ++ t) (flat_at f ys i x (omega arith) is)

-- some of the parts of a list
pub some_added : {X : Type 0} (f : X → List ℕ) (xs : List X) (i : ℕ) (x : X) (old mid new : List ℕ) → i < length xs → x ≡ get_or xs i x → mid ≡ old ++ flat_map f (take i xs) → GrowsIn mid new (f x) → GrowsIn old new (flat_map f xs)
some_added f xs i x old mid new lt is so_far grows =
    grows_along old new _ _ (flat_at f xs i x lt is) (grows_later old mid new (flat_map f (take i xs)) (f x ++ flat_map f (drop (suc i) xs)) so_far (grows_front mid new (f x) (flat_map f (drop (suc i) xs)) grows))

-- the low bits of a number
pub low_word : (n : ℕ) → to_le_bytes w32 (n % 2 ^ 32) ≡ to_le_bytes w32 n
low_word n =
    let a : n % 4294967296 % 256 ≡ n % 256 = omega arith in
    let b : n % 4294967296 / 256 % 256 ≡ n / 256 % 256 = omega arith in
    let c : n % 4294967296 / 65536 % 256 ≡ n / 65536 % 256 = omega arith in
    let d : n % 4294967296 / 16777216 % 256 ≡ n / 16777216 % 256 = omega arith in
    λ i. a i ∷ (b i ∷ (c i ∷ (d i ∷ [])))

pub low_half : (n : ℕ) → to_le_bytes w16 (n % 2 ^ 16) ≡ to_le_bytes w16 n
low_half n =
    let a : n % 65536 % 256 ≡ n % 256 = omega arith in
    let b : n % 65536 / 256 % 256 ≡ n / 256 % 256 = omega arith in
    λ i. a i ∷ (b i ∷ [])

-- names as their layout has them
pub names_flat : (before names : List (List ℕ)) → spelled name_item before names ≡ flat_map text_bytes names
names_flat before [] = refl
names_flat before (name ∷ names) = ap (λ (t : List ℕ). text_bytes name ++ t) (names_flat (before ++ name ∷ []) names)
