-- Which fields hold a special byte, and where their quotes stand.
use Rattle.std.proofs.Common.{◌≡◌, ℕ, zero, suc, ◌+◌, ◌^◌, ◌<◌, ◌≤◌, ℤ, pos, negsuc, FitsSigned, w64, Bool, true, false, ◌||◌, ◌&&◌, List, [], ◌∷◌, ◌++◌, length, take, drop, get_or, flat_map, Option, Some, None, MatchOption, is_some, ap, sym, subst, ◌∙◌, refl, arith, ◌==◌, inl, inr}
use Rattle.std.proofs.lemmas.Bool.{cases_Bool, false_from_ne_true}
use Rattle.std.proofs.lemmas.List.Sums.{passes_at_first}
use Rattle.std.proofs.lemmas.Bool.Decides.{eqb_tells}
use Rattle.std.proofs.lemmas.List.Folds.{list_any_at}
use Rattle.std.specs.List.{list_any, position_or_len}
use Rattle.memchr.specs.Find.{IsFirstByte, is_byte}
use Rattle.byte_masks.specs.declared.set.ByteSet.{ByteSet}
use Rattle.byte_masks.specs.Places.{is_in, IsNextPlace}
use Rattle.byte_masks.specs.Search.{Search}
use Rattle.lp_model.specs.Csv.{is_special, doubled, csv_field}
use Rattle.std.proofs.lemmas.Bool.Decides.{nat_tests}
use Rattle.std.proofs.lemmas.Fmt.{decimal_is_IsNumeral, decimal_nonempty}
use Rattle.std.specs.Char.{is_ascii_digit}
use Rattle.std.specs.Cmp.{first_so, second_so}
use Rattle.std.specs.Fmt.{signed_decimal}
use Rattle.std.specs.Prelude.{decimal, if◌then◌else◌}
use Rattle.lp_values.specs.Readings.{is_digits}
use Rattle.lp_values.proofs.ReadingLemmas.{model}

any_some : (test : ℕ → Bool) (xs : List ℕ) → position_or_len test xs < length xs → list_any test xs ≡ true
any_some test xs within = list_any_at test xs (position_or_len test xs) 0 within (passes_at_first test xs 0 within)

any_none : (test : ℕ → Bool) (xs : List ℕ) → length xs ≤ position_or_len test xs → list_any test xs ≡ false
any_none test [] none = refl
any_none test (x ∷ xs) none =
    elim (cases_Bool (test x)) [
      | inl e ↦ let zero : suc (length xs) ≤ 0 = rw e at none in absurd (omega arith)
      | inr e ↦ let more : suc (length xs) ≤ 1 + position_or_len test xs = rw e at none in rw e (any_none test xs (omega arith))
    ]

any_found : (test : ℕ → Bool) (xs : List ℕ) (r : Option ℕ) (P : ℕ → Type 0) → MatchOption r (length (drop 0 xs) ≤ position_or_len test (drop 0 xs)) (λ place. IsNextPlace test xs 0 place × P place) → is_some r ≡ list_any test xs
any_found test xs None P none = sym (any_none test xs none)
any_found test xs (Some at) P next = sym (any_some test xs (omega (arith, next.0.0, next.0.1)))

-- a search tells whether a byte is there
pub any_from_search : (set : ByteSet) (xs : List ℕ) (places : Search) (r : Option ℕ) (P : ℕ → Type 0) → places.set ≡ set → places.bytes ≡ xs → places.at ≡ 0
    → MatchOption r (length (drop places.at places.bytes) ≤ position_or_len (is_in places.set) (drop places.at places.bytes)) (λ place. IsNextPlace (is_in places.set) places.bytes places.at place × P place)
    → is_some r ≡ list_any (is_in set) xs
any_from_search set xs places r P a b c found =
    let Found : ByteSet → List ℕ → ℕ → Type 0 = λ set bytes at. MatchOption r (length (drop at bytes) ≤ position_or_len (is_in set) (drop at bytes)) (λ place. IsNextPlace (is_in set) bytes at place × P place) in
    any_found (is_in set) xs r P (subst (λ (at : ℕ). Found set xs at) c (subst (λ (bytes : List ℕ). Found set bytes places.at) b (subst (λ (s : ByteSet). Found s places.bytes places.at) a found)))

four : (a b c d : Bool) → (a || b) || (c || d) ≡ (a || c) || (b || d)
four true b c d = refl
four false true true d = refl
four false true false d = refl
four false false true d = refl
four false false false d = refl

either : (p q : ℕ → Bool) (xs : List ℕ) → list_any (λ x. p x || q x) xs ≡ (list_any p xs || list_any q xs)
either p q [] = refl
either p q (x ∷ xs) = ap (λ t. (p x || q x) || t) (either p q xs) ∙ four (p x) (q x) (list_any p xs) (list_any q xs)

any_same : (p q : ℕ → Bool) (xs : List ℕ) → ((x : ℕ) → p x ≡ q x) → list_any p xs ≡ list_any q xs
any_same p q [] same = refl
any_same p q (x ∷ xs) same = ap (λ t. t || list_any p xs) (same x) ∙ ap (λ t. q x || t) (any_same p q xs same)

abbrev separators : ByteSet
separators = record { first = 44; second = 34 }

abbrev pub line_ends : ByteSet
line_ends = record { first = 13; second = 10 }

in_order : (a b c d : Bool) → ((a || b) || c) || d ≡ (a || b) || (c || d)
in_order true b c d = refl
in_order false true c d = refl
in_order false false c d = refl

-- a special byte is a separator or ends a line
pub special_either : (xs : List ℕ) → list_any is_special xs ≡ (list_any (is_in separators) xs || list_any (is_in line_ends) xs)
special_either xs = any_same is_special (λ x. is_in separators x || is_in line_ends x) xs (λ x. in_order (x == 44) (x == 34) (x == 13) (x == 10)) ∙ either (is_in separators) (is_in line_ends) xs

-- a field without a quote stays
doubled_nowhere : (xs : List ℕ) → ((k : ℕ) → k < length xs → (get_or xs k 0 == 34) ≡ false) → flat_map doubled xs ≡ xs
doubled_nowhere [] none = refl
doubled_nowhere (x ∷ xs) none = let here : (x == 34) ≡ false = none 0 (omega arith) in rw here (ap (λ t. x ∷ t) (doubled_nowhere xs (λ k lt. none (suc k) (omega arith))))

pub doubled_none : (xs : List ℕ) → IsFirstByte (is_byte 34) xs None → flat_map doubled xs ≡ xs
doubled_none xs nowhere = doubled_nowhere xs (λ k lt. false_from_ne_true _ (nowhere k (omega arith) lt))

quote_is : (x : ℕ) → (x == 34) ≡ true → x ≡ 34
quote_is x is = elim (eqb_tells x 34) [ inl w ↦ w.1 | inr w ↦ absurd (let e = w.0 in let f : true ≡ false = sym is ∙ e in cc) ]

-- the first quote is doubled, and then the rest
doubled_at : (xs : List ℕ) (at : ℕ) → at < length xs → ((k : ℕ) → k < at → (get_or xs k 0 == 34) ≡ false) → (get_or xs at 0 == 34) ≡ true
    → flat_map doubled xs ≡ (take (suc at) xs ++ 34 ∷ []) ++ flat_map doubled (drop (suc at) xs)
doubled_at [] at lt before here = absurd (omega arith)
doubled_at (x ∷ xs) zero lt before here = rw here (ap (λ y. y ∷ 34 ∷ flat_map doubled xs) (sym (quote_is x here)))
doubled_at (x ∷ xs) (suc k) lt before here =
    let first : (x == 34) ≡ false = before 0 (omega arith) in
    rw first (ap (λ t. x ∷ t) (doubled_at xs k (omega arith) (λ j below. before (suc j) (omega arith)) here))

pub doubled_first : (xs : List ℕ) (at n : ℕ) → n ≡ suc at → IsFirstByte (is_byte 34) xs (Some at) → flat_map doubled xs ≡ (take n xs ++ 34 ∷ []) ++ flat_map doubled (drop n xs)
doubled_first xs at n is first =
    doubled_at xs at first.0.high (λ k below. false_from_ne_true _ (first.0.before k (omega arith) below)) first.1 ∙ ap (λ m. (take m xs ++ 34 ∷ []) ++ flat_map doubled (drop m xs)) (sym is)

-- ---- numbers

digit_plain : (b : ℕ) → is_ascii_digit b ≡ true → is_special b ≡ false
digit_plain b e = grind (arith, nat_tests)

digits_plain : (xs : List ℕ) → is_digits xs ≡ true → list_any is_special xs ≡ false
digits_plain [] e = refl
digits_plain (x ∷ xs) e =
    let here = digit_plain x (first_so (is_ascii_digit x) (is_digits xs) e) in
    rw here (digits_plain xs (second_so (is_ascii_digit x) (is_digits xs) e))

decimal_plain : (n : ℕ) → n < 2 ^ 64 → list_any is_special (decimal n) ≡ false
decimal_plain n fits = digits_plain (decimal n) (model.from (decimal n) (decimal_is_IsNumeral n fits).0.1)

signed_plain : (z : ℤ) → FitsSigned w64 z → list_any is_special (signed_decimal z) ≡ false
signed_plain (pos n) fits = decimal_plain n (omega (arith, fits.sfits))
signed_plain (negsuc n) fits = decimal_plain (suc n) (omega (arith, fits.sfits))

filled : (k : ℕ) → 0 < k → (k == 0) ≡ false
filled k some = grind (arith, nat_tests)

signed_filled : (z : ℤ) → FitsSigned w64 z → (length (signed_decimal z) == 0) ≡ false
signed_filled (pos n) fits = filled (length (decimal n)) (decimal_nonempty n (omega (arith, fits.sfits)))
signed_filled (negsuc n) fits = filled (suc (length (decimal (suc n)))) (omega arith)

-- a number stands without quotes
pub number_plain : (only : Bool) (z : ℤ) → FitsSigned w64 z → csv_field only (signed_decimal z) ≡ signed_decimal z
number_plain only z fits = rw (signed_plain z fits, signed_filled z fits) (unquoted only)
  where
    unquoted : (only : Bool) → (if (false || (only && false)) then 34 ∷ [] ++ flat_map doubled (signed_decimal z) ++ 34 ∷ [] else signed_decimal z) ≡ signed_decimal z
    unquoted true = refl
    unquoted false = refl
