-- The names of generations.
use Rattle.std.proofs.Common.{◌≡◌, ℕ, ◌+◌, ◌-◌, ◌<◌, List, [], ◌∷◌, ◌++◌, map, drop, get_or, length, length-append, refl, sym, ◌∙◌, ap, arith}
use Rattle.std.specs.List.{AllByRecursion}
use Rattle.std.specs.Int.Digits.{digits_of, number_from_digits}
use Rattle.std.proofs.lemmas.Int.Digits.{number_digits_of}
use Rattle.std.proofs.lemmas.List.{append_cancel_left}
use Rattle.run_model.specs.Logs.{number_text, generation_name}

digits_back : (digits : List ℕ) → map (λ (c : ℕ). c - 48) (map (λ (d : ℕ). 48 + d) digits) ≡ digits
digits_back [] = refl
digits_back (d ∷ digits) = let here : 48 + d - 48 ≡ d = omega arith in λ i. here i ∷ digits_back digits i

number_back : (number : ℕ) → number_from_digits 10 (map (λ (c : ℕ). c - 48) (number_text number)) ≡ number
number_back number = ap (number_from_digits 10) (digits_back (digits_of 10 number)) ∙ number_digits_of 10 number (omega arith)

-- a text is that of one number
pub one_text : (a b : ℕ) → number_text a ≡ number_text b → a ≡ b
one_text a b text = sym (number_back a) ∙ (ap (λ t. number_from_digits 10 (map (λ (c : ℕ). c - 48) t)) text ∙ number_back b)

pub one_number : (stem : List ℕ) (a b : ℕ) → generation_name stem a ≡ generation_name stem b → a ≡ b
unfolding generation_name
one_number stem a b e =
    let tail : 46 ∷ number_text a ≡ 46 ∷ number_text b = append_cancel_left stem (46 ∷ number_text a) (46 ∷ number_text b) e in
    one_text a b (ap (drop 1) tail)

-- what stands before the last dot, where the rest has none
no_dot : (ys ds es : List ℕ) → AllByRecursion (λ c. 47 < c) ds → ds ≡ ys ++ 46 ∷ es → ⊥
no_dot ys [] es a e = absurd (omega (arith, ap length e, length-append ys (46 ∷ es)))
no_dot [] (d ∷ ds) es (h, a) e = let head : d ≡ 46 = ap (λ l. get_or l 0 0) e in omega arith
no_dot (y ∷ ys) (d ∷ ds) es (h, a) e = no_dot ys ds es a (ap (drop 1) e)

before_dot : (xs ys ds es : List ℕ) → AllByRecursion (λ c. 47 < c) ds → AllByRecursion (λ c. 47 < c) es → xs ++ 46 ∷ ds ≡ ys ++ 46 ∷ es → xs ≡ ys
before_dot [] [] ds es a b e = refl
before_dot [] (y ∷ ys) ds es a b e = let tail : ds ≡ ys ++ 46 ∷ es = ap (drop 1) e in absurd (no_dot ys ds es a tail)
before_dot (x ∷ xs) [] ds es a b e = let tail : es ≡ xs ++ 46 ∷ ds = ap (drop 1) (sym e) in absurd (no_dot xs es ds b tail)
before_dot (x ∷ xs) (y ∷ ys) ds es a b e =
    let head : x ≡ y = ap (λ l. get_or l 0 0) e in
    let rest = before_dot xs ys ds es a b (ap (drop 1) e) in
    λ i. head i ∷ rest i

pub digits_high : (digits : List ℕ) → AllByRecursion (λ c. 47 < c) (map (λ (d : ℕ). 48 + d) digits)
digits_high [] = tt
digits_high (d ∷ digits) = (omega arith, digits_high digits)

-- a name is a generation of one stem
pub one_stem : (stem other : List ℕ) (a b : ℕ) → generation_name stem a ≡ generation_name other b → stem ≡ other
unfolding generation_name
one_stem stem other a b e = before_dot stem other (number_text a) (number_text b) (digits_high (digits_of 10 a)) (digits_high (digits_of 10 b)) e
