-- Fronts and places that are found.
use Rattle.std.specs.Bool.{IsTrue}
use Rattle.std.specs.Cmp.{both_ways}
use Rattle.std.specs.Char.{to_ascii_lowercase}
use Rattle.std.specs.List.{starts_with, position, position_or_len}
use Rattle.std.specs.Cmp.Lexicographic.{pointwise}
use Rattle.std.proofs.Common.{◌≡◌, ℕ, nat_eq, nat_lt, Bool, true, false, not, List, [], ◌∷◌, length, take, map, cond, find, unwrap_or, subst, Option, Some, None, refl, sym, ◌∙◌, ap, ap₂, arith}
use Rattle.std.proofs.lemmas.List.{take-map}
use Rattle.std.proofs.lemmas.List.Sums.{prefix_len_is}
use Rattle.std.proofs.lemmas.Bool.{eq-eqb, eqb-true, false≢true, and_parts, lt-ltb}
use Rattle.std.proofs.lemmas.Bool.Decides.{nat_tests}
use Rattle.memchr.specs.Find.{IsFirstByte, is_byte}

pub pointwise_same : (xs ys : List ℕ) → pointwise nat_eq xs ys ≡ true → xs ≡ ys
pointwise_same [] [] is = refl
pointwise_same [] (y ∷ ys) is = absurd (false≢true is)
pointwise_same (x ∷ xs) [] is = absurd (false≢true is)
pointwise_same (x ∷ xs) (y ∷ ys) is = let p = and_parts _ _ is in ap₂ (λ (z : ℕ) (zs : List ℕ). z ∷ zs) (eqb-true x y p.0) (pointwise_same xs ys p.1)

pub pointwise_self : (xs : List ℕ) → pointwise nat_eq xs xs ≡ true
pointwise_self [] = refl
pointwise_self (x ∷ xs) = rw (eq-eqb x x refl, pointwise_self xs) refl

-- a front that is compared in small letters
pub front_same : (name bytes : List ℕ) (test : Bool) → map to_ascii_lowercase name ≡ name → (IsTrue test → map to_ascii_lowercase (take (length name) bytes) ≡ map to_ascii_lowercase name)
    → (map to_ascii_lowercase (take (length name) bytes) ≡ map to_ascii_lowercase name → IsTrue test) → test ≡ starts_with nat_eq (map to_ascii_lowercase bytes) name
front_same name bytes test small yes' so =
    let moved : take (length name) (map to_ascii_lowercase bytes) ≡ map to_ascii_lowercase (take (length name) bytes) = take-map to_ascii_lowercase (length name) bytes in
    both_ways test _
    (λ is. rw (moved, yes' is, small) (pointwise_self name))
    (λ is. so (sym moved ∙ sym (pointwise_same name (take (length name) (map to_ascii_lowercase bytes)) is) ∙ sym small))

not_byte : (b x : ℕ) → (is_byte b x ≡ true → ⊥) → not (is_byte b x) ≡ true
not_byte b x no' = not_true (is_byte b x) no'
  where
    not_true : (t : Bool) → (t ≡ true → ⊥) → not t ≡ true
    not_true true no' = absurd (no' refl)
    not_true false no' = refl

-- where a byte is first
position_none : (b : ℕ) (hay : List ℕ) → IsFirstByte (is_byte b) hay None → position (is_byte b) hay ≡ None
position_none b hay nowhere =
    let all : position_or_len (is_byte b) hay ≡ length hay = prefix_len_is (λ x. not (is_byte b x)) hay (length hay) 0 (omega arith) (λ k lt. not_byte b _ (nowhere k (omega arith) lt)) (λ lt. absurd (omega arith)) in
    let none' : nat_lt (length hay) (length hay) ≡ false = grind (arith, nat_tests) in
    rw (all, none') refl

position_some : (b : ℕ) (hay : List ℕ) (n : ℕ) → IsFirstByte (is_byte b) hay (Some n) → position (is_byte b) hay ≡ Some n
position_some b hay n found =
    let here : position_or_len (is_byte b) hay ≡ n = prefix_len_is (λ x. not (is_byte b x)) hay n 0 (omega arith) (λ k lt. not_byte b _ (found.0.before k (omega arith) lt)) (λ lt. rw found.1 refl) in
    rw (here, lt-ltb n (length hay) found.0.high) refl

pub position_is : (b : ℕ) (hay : List ℕ) (found : Option ℕ) → IsFirstByte (is_byte b) hay found → found ≡ position (is_byte b) hay
position_is b hay None is = sym (position_none b hay is)
position_is b hay (Some n) is = sym (position_some b hay n is)

-- what is found passes
find_by : {A : Type 0} (test : A → Bool) (is : Bool) (x y : A) (ys : List A) → test y ≡ is → (find test ys ≡ Some x → test x ≡ true) → cond is (Some y) (find test ys) ≡ Some x → test x ≡ true
find_by {A} test true x y ys is more e = subst (λ (z : A). test z ≡ true) (ap (λ (o : Option A). unwrap_or o y) e) is
find_by test false x y ys is more e = more e

pub find_passes : {A : Type 0} (test : A → Bool) (xs : List A) (x : A) → find test xs ≡ Some x → test x ≡ true
find_passes test [] x e = cc
find_passes test (y ∷ ys) x e = find_by test (test y) x y ys refl (find_passes test ys x) e
