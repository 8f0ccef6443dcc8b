-- The mask of pairs, from those of their parts.
use Rattle.std.proofs.Common.{◌≡◌, ℕ, zero, suc, ◌+◌, ◌-◌, ◌*◌, ◌/◌, ◌%◌, min, Bool, true, false, ◌&&◌, cond, List, [], ◌∷◌, length, take, drop, refl, sym, ap, ap₂, ◌∙◌, arith}
use Rattle.std.proofs.lemmas.List.{drop-drop, length-drop}
use Rattle.std.proofs.lemmas.Slice.Zip.{length-zip}
use Rattle.std.specs.List.{zip}
use lib.Bits.{bit_and, and_step, and_zero_l, and_zero_r}
use Rattle.byte_masks.specs.declared.set.ByteSet.{ByteSet}
use Rattle.byte_masks.specs.Places.{is_in, are_in, pairs_of, mask_of}

joined : (a b : Bool) (x y : ℕ) → bit_and (cond a 1 0 + 2 * x) (cond b 1 0 + 2 * y) ≡ cond (a && b) 1 0 + 2 * bit_and x y
joined a b x y =
    let l : ℕ = cond a 1 0 + 2 * x in
    let r : ℕ = cond b 1 0 + 2 * y in
    and_step l r ∙ parts a b
  where
    halves : (b : Bool) (x : ℕ) → (cond b 1 0 + 2 * x) / 2 ≡ x
    halves true x = omega arith
    halves false x = omega arith

    rest : (b : Bool) (x : ℕ) → (cond b 1 0 + 2 * x) % 2 ≡ cond b 1 0
    rest true x = omega arith
    rest false x = omega arith

    low : (a b : Bool) → min (cond a 1 0) (cond b 1 0) ≡ cond (a && b) 1 0
    low true true = refl
    low true false = refl
    low false true = refl
    low false false = refl

    parts : (a b : Bool) → bit_and ((cond a 1 0 + 2 * x) / 2) ((cond b 1 0 + 2 * y) / 2) * 2 + min ((cond a 1 0 + 2 * x) % 2) ((cond b 1 0 + 2 * y) % 2) ≡ cond (a && b) 1 0 + 2 * bit_and x y
    parts a b =
        let e : bit_and ((cond a 1 0 + 2 * x) / 2) ((cond b 1 0 + 2 * y) / 2) ≡ bit_and x y = ap₂ bit_and (halves a x) (halves b y) in
        let f : min ((cond a 1 0 + 2 * x) % 2) ((cond b 1 0 + 2 * y) % 2) ≡ cond (a && b) 1 0 = ap₂ min (rest a x) (rest b y) ∙ low a b in
        ap₂ (λ m n. m * 2 + n) e f ∙ omega arith

-- the mask of both is that of the pairs
mask_of-zip : (first second : ByteSet) (xs ys : List ℕ) → bit_and (mask_of (is_in first) xs) (mask_of (is_in second) ys) ≡ mask_of (are_in first second) (zip xs ys)
mask_of-zip first second [] ys = and_zero_l (mask_of (is_in second) ys)
mask_of-zip first second (x ∷ xs) [] = and_zero_r (mask_of (is_in first) (x ∷ xs))
mask_of-zip first second (x ∷ xs) (y ∷ ys) =
    joined (is_in first x) (is_in second y) (mask_of (is_in first) xs) (mask_of (is_in second) ys)
    ∙ ap (λ m. cond (is_in first x && is_in second y) 1 0 + 2 * m) (mask_of-zip first second xs ys)

zip-take : (n : ℕ) (xs ys : List ℕ) → zip (take n xs) (take n ys) ≡ take n (zip xs ys)
zip-take zero xs ys = refl
zip-take (suc n) [] ys = refl
zip-take (suc n) (x ∷ xs) [] = refl
zip-take (suc n) (x ∷ xs) (y ∷ ys) = ap (λ ps. (x, y) ∷ ps) (zip-take n xs ys)

zip-nil : (xs : List ℕ) → zip xs (let none : List ℕ = [] in none) ≡ []
zip-nil [] = refl
zip-nil (x ∷ xs) = refl

zip-drop : (n : ℕ) (xs ys : List ℕ) → zip (drop n xs) (drop n ys) ≡ drop n (zip xs ys)
zip-drop zero xs ys = refl
zip-drop (suc n) [] ys = refl
zip-drop (suc n) (x ∷ xs) [] = zip-nil (drop n xs)
zip-drop (suc n) (x ∷ xs) (y ∷ ys) = zip-drop n xs ys

pub pairs_mask : (first second : ByteSet) (apart at : ℕ) (bytes : List ℕ)
    → bit_and (mask_of (is_in first) (take 64 (drop at bytes))) (mask_of (is_in second) (take 64 (drop (at + apart) bytes))) ≡ mask_of (are_in first second) (take 64 (drop at (pairs_of apart bytes)))
pairs_mask first second apart at bytes =
    let swap : apart + at ≡ at + apart = omega arith in
    let behind : drop (at + apart) bytes ≡ drop at (drop apart bytes) = sym (drop-drop at apart bytes ∙ ap (λ n. drop n bytes) swap) in
    ap (λ ys. bit_and (mask_of (is_in first) (take 64 (drop at bytes))) (mask_of (is_in second) (take 64 ys))) behind
    ∙ (mask_of-zip first second (take 64 (drop at bytes)) (take 64 (drop at (drop apart bytes)))
    ∙ ap (mask_of (are_in first second)) (zip-take 64 (drop at bytes) (drop at (drop apart bytes)) ∙ ap (take 64) (zip-drop at bytes (drop apart bytes))))

-- as many pairs as bytes but the last
pub length-pairs_of : (apart : ℕ) (bytes : List ℕ) → length (pairs_of apart bytes) ≡ length bytes - apart
length-pairs_of apart bytes = length-zip bytes (drop apart bytes) ∙ omega (arith, length-drop apart bytes)
