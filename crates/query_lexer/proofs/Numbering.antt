-- The number that digits write.
use Rattle.std.proofs.Common.{◌≡◌, ℕ, ◌+◌, ◌-◌, ◌*◌, ◌≤◌, ◌<◌, List, [], ◌∷◌, ◌++◌, length, drop, get_or, refl, sym, ◌∙◌, subst, arith, take, min, inl, inr, drop_of_length-le}
use Rattle.std.proofs.Math.Nat.{min-eq_left, min-eq_right}
use Rattle.std.proofs.lemmas.List.{take_all}
use Rattle.std.proofs.lemmas.Bool.Decides.{leb_tells}
use Rattle.std.proofs.lemmas.List.{drop_more}
use Rattle.query_lexer.specs.Numbers.{number_after, number_of}

pub number_after_more : (n : ℕ) (ds : List ℕ) (i : ℕ) → i < length ds → number_after n (drop i ds) ≡ number_after (n * 10 + (get_or ds i 0 - 48)) (drop (i + 1) ds)
number_after_more n ds i lt = rw (drop_more ds i 0 lt) refl

pub number_after_grows : (n : ℕ) (ds : List ℕ) → n ≤ number_after n ds
number_after_grows n [] = omega arith
number_after_grows n (d ∷ ds) = let more = number_after_grows (n * 10 + (d - 48)) ds in omega arith

pub number_after_append : (n : ℕ) (xs ys : List ℕ) → number_after n (xs ++ ys) ≡ number_after (number_after n xs) ys
number_after_append n [] ys = refl
number_after_append n (x ∷ xs) ys = number_after_append (n * 10 + (x - 48)) xs ys

-- what is too much in front is too much in all
pub number_of_grows : (xs ys : List ℕ) → number_of xs ≤ number_of (xs ++ ys)
number_of_grows xs ys = let more = number_after_grows (number_of xs) ys in let same = number_after_append 0 xs ys in omega arith

-- a whole part, the decimals that stand and zeros
pub number_of_three : (whole decimals zeros : List ℕ) → number_of (whole ++ (decimals ++ zeros)) ≡ number_after (number_after (number_of whole) decimals) zeros
number_of_three whole decimals zeros = number_after_append 0 whole (decimals ++ zeros) ∙ number_after_append (number_of whole) decimals zeros

-- the decimals that are kept, and the zeros for those that are missing
pub six_by : (decimals zeros : List ℕ) (kept : ℕ) → length zeros ≡ 6 → kept ≡ min (length decimals) 6 → take 6 decimals ++ drop (length decimals) zeros ≡ take kept decimals ++ drop kept zeros
six_by decimals zeros kept six is = elim (leb_tells 6 (length decimals)) [
  | inl p ↦ (let le = p.1 in let here : kept ≡ 6 = is ∙ min-eq_right le in
      let none' : drop (length decimals) zeros ≡ [] = drop_of_length-le zeros (subst (λ (n : ℕ). n ≤ length decimals) (sym six) le) in
      let none-2 : drop kept zeros ≡ [] = drop_of_length-le zeros (omega arith) in
      rw (none', none-2, here) refl)
  | inr p ↦ (let lt = p.1 in let le : length decimals ≤ 6 = omega arith in let here : kept ≡ length decimals = is ∙ min-eq_left le in
      rw (here, take_all 6 decimals le, take_all (length decimals) decimals (omega arith)) refl)
]
