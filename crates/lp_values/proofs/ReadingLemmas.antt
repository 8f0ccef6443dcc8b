-- Texts as numbers: digits, sign and point.
use Rattle.std.proofs.Common.{◌≡◌, ℕ, zero, suc, ◌+◌, ◌-◌, ◌*◌, ◌^◌, ◌<◌, ◌≤◌, Bool, true, false, List, [], ◌∷◌, ◌++◌, length, take, get_or, replicate, min, ℤ, pos, negsuc, neg_ℤ, refl, sym, ap, arith, Option, Some, None, MatchOption, FitsSigned, w64, rules, lt-ltb, nat_lt, if◌then◌else◌, ◌&&◌, length-append, add-one}
use Rattle.std.proofs.lemmas.Bool.{false_from_ne_true}
use Rattle.std.specs.Cmp.{first_so, second_so}
use Rattle.std.proofs.lemmas.List.{get_or-replicate}
use Rattle.std.proofs.Math.Nat.{pow-suc}
use Rattle.std.proofs.lemmas.Str.{digit_value_digit}
use Rattle.std.proofs.lemmas.Bool.Decides.{nat_tests}
use Rattle.std.proofs.lemmas.Int.Digits.{digits_value_more}
use Rattle.std.proofs.lemmas.List.Sums.{position_or_len_is}
use Rattle.std.proofs.lemmas.Str.Parse.{IsNumeralModel, numerals_by_value, digit_at}
use Rattle.std.specs.declared.result.Result.{Result}
use Rattle.std.specs.declared.result.Result.TheVariants.{Ok, Err}
use Rattle.std.specs.Char.{digit_value}
use Rattle.std.specs.List.{position_or_len, before_first, after_first}
use Rattle.std.specs.Option.{option_map}
use Rattle.std.specs.Result.{result_ok}
use Rattle.std.specs.Str.Parse.{digits_value, without_leading_sign, starts_with_minus, signed_digits_value, ParsesSigned, IsNumeral}
use Rattle.memchr.specs.Find.{IsFirstByte, is_byte}
use Rattle.lp_values.specs.Arithmetic.{is_in_64_bits}
use Rattle.lp_values.specs.Readings.{is_digits, is_numeral, is_point, integer_in, real_in, millionths_of, signed_by}

pub point_from_memchr : (bytes : List ℕ) (r : Option ℕ) → IsFirstByte (is_byte 46) bytes r
    → MatchOption r (length bytes ≤ position_or_len is_point bytes) (λ at. (at ≡ position_or_len is_point bytes) × (at < length bytes))
point_from_memchr bytes None nowhere =
    let e = position_or_len_is is_point bytes (length bytes) 0 (omega arith) (λ k lt. false_from_ne_true _ (nowhere k (omega arith) lt)) (λ lt. absurd (omega arith)) in
    omega (arith, e)
point_from_memchr bytes (Some at) first =
    let lt : at < length bytes = first.0.high in
    (sym (position_or_len_is is_point bytes at 0 (omega arith) (λ k below. false_from_ne_true _ (first.0.before k (omega arith) below)) (λ _. first.1)), lt)

-- the test tells the fact
bits_in : (z : ℤ) → is_in_64_bits z ≡ true → FitsSigned w64 z
bits_in (pos n) h = grind (arith, nat_tests)
bits_in (negsuc n) h = grind (arith, nat_tests)

bits_out : (z : ℤ) → FitsSigned w64 z → is_in_64_bits z ≡ true
bits_out (pos n) h = lt-ltb n (2 ^ 63) h.sfits
bits_out (negsuc n) h = lt-ltb n (2 ^ 63) h.sfits

pub model : IsNumeralModel (λ ds. is_digits ds ≡ true) (digits_value 10)
model = numerals_by_value (λ ds. is_digits ds ≡ true) (search rules)

-- a digit's value
pub digit_is : (text : List ℕ) (i : ℕ) → is_digits text ≡ true → i < length text → digit_value (get_or text i 0) ≡ get_or text i 0 - 48
digit_is text i all lt = let is = digit_value_digit (get_or text i 0) (digit_at text i (model.to text all) lt) in omega arith

numeral_to : (ds : List ℕ) → is_numeral ds ≡ true → IsNumeral 10 ds
numeral_to ds h =
    let some : nat_lt 0 (length ds) ≡ true = first_so (nat_lt 0 (length ds)) (is_digits ds) h in
    (grind (arith, nat_tests), model.to ds (second_so (nat_lt 0 (length ds)) (is_digits ds) h))

numeral_from : (ds : List ℕ) → IsNumeral 10 ds → is_numeral ds ≡ true
numeral_from ds (some, all) = let a : nat_lt 0 (length ds) ≡ true = lt-ltb 0 (length ds) some in let b : is_digits ds ≡ true = model.from ds all in rw (a, b) refl

-- a number where two tests hold
abbrev picked : Bool → Bool → ℤ → Option ℤ
picked form fits number = if form then (if fits then Some number else None) else None

picked_some : (form fits : Bool) (x number : ℤ) → form ≡ true → fits ≡ true → x ≡ number → Some x ≡ picked form fits number
picked_some true true x number a b e = ap Some e
picked_some true false x number a b e = cc
picked_some false fits x number a b e = cc

picked_none : (form fits : Bool) (number : ℤ) → (form ≡ true → fits ≡ true → ⊥) → None ≡ picked form fits number
picked_none true true number never = absurd (never refl refl)
picked_none true false number never = refl
picked_none false fits number never = refl

pub integer_read : {E : Type 0} (text : List ℕ) (r : Result ℤ E) → ParsesSigned w64 10 text r → result_ok r ≡ integer_in text
integer_read text (Ok x) h =
    let digits = without_leading_sign text in
    picked_some (is_numeral digits) (is_in_64_bits (signed_digits_value 10 text)) x (signed_digits_value 10 text)
    (numeral_from digits h.0.0) (bits_out (signed_digits_value 10 text) h.0.1) h.1
integer_read text (Err e) h =
    let digits = without_leading_sign text in
    picked_none (is_numeral digits) (is_in_64_bits (signed_digits_value 10 text)) (signed_digits_value 10 text)
    (λ a b. h (numeral_to digits a, bits_in (signed_digits_value 10 text) b))

-- a number under a sign within 64 bits is at most 2 ^ 63
signed_small : (text : List ℕ) (n : ℕ) → is_in_64_bits (signed_by text n) ≡ true → n ≤ 2 ^ 63
signed_small text n h = by (starts_with_minus text) h
  where
    minus : (n : ℕ) → is_in_64_bits (neg_ℤ (pos n)) ≡ true → n ≤ 2 ^ 63
    minus zero h = omega arith
    minus (suc m) h = grind (arith, nat_tests)

    by : (b : Bool) → is_in_64_bits (if b then neg_ℤ (pos n) else pos n) ≡ true → n ≤ 2 ^ 63
    by true h = minus n h
    by false h = grind (arith, nat_tests)

-- a whole part that is no digits or too large leaves no number
pub whole_none : (text whole decimals : List ℕ) → whole ≡ before_first is_point (without_leading_sign text) → decimals ≡ after_first is_point (without_leading_sign text)
    → ¬ ((is_digits whole ≡ true) × (digits_value 10 whole ≤ 9_223_372_036_854)) → None ≡ real_in text
whole_none text whole decimals a b never =
    let number = digits_value 10 whole * 1_000_000 + millionths_of decimals in
    rw (← a, ← b) (ap (option_map (λ (z : ℤ). record { millionths = z })) (picked_none (is_digits whole && is_numeral decimals) (is_in_64_bits (signed_by text number)) (signed_by text number)
    (λ form fits.
    let small = signed_small text number fits in
    never (first_so (is_digits whole) (is_numeral decimals) form, omega arith))))

-- a step of reading digits
pub number_step : (text : List ℕ) (i n : ℕ) → is_digits text ≡ true → i < length text → n ≡ min (digits_value 10 (take i text)) (2 ^ 64 - 1)
    → min (min (n * 10) (2 ^ 64 - 1) + (get_or text i 0 - 48)) (2 ^ 64 - 1) ≡ min (digits_value 10 (take (i + 1) text)) (2 ^ 64 - 1)
number_step text i n all lt is = omega (arith, digits_value_more 10 text i lt, digit_is text i all lt)

power_below : (k : ℕ) → k < 6 → 10 ^ k ≤ 100_000
power_below zero lt = omega arith
power_below (suc zero) lt = omega arith
power_below (suc (suc zero)) lt = omega arith
power_below (suc (suc (suc zero))) lt = omega arith
power_below (suc (suc (suc (suc zero)))) lt = omega arith
power_below (suc (suc (suc (suc (suc zero))))) lt = omega arith
power_below (suc (suc (suc (suc (suc (suc k)))))) lt = absurd (omega arith)

-- a text and zeros behind it
padded_at : (text : List ℕ) (n i : ℕ) → i < n → get_or (text ++ replicate n 48) i 0 ≡ get_or text i 48
padded_at [] n i lt = get_or-replicate n i 48 0 lt
padded_at (x ∷ text) n zero lt = refl
padded_at (x ∷ text) n (suc i) lt = padded_at text n i (omega arith)

pub six_step : (text : List ℕ) (i n d : ℕ) → i < 6 → n ≡ digits_value 10 (take i (text ++ replicate 6 48)) → n < 10 ^ i → d ≡ digit_value (get_or text i 48) → d < 10
    → (n * 10 + d ≡ digits_value 10 (take (i + 1) (text ++ replicate 6 48))) × (n * 10 + d < 10 ^ (i + 1))
six_step text i n d lt is below digit small =
    let padded : List ℕ = text ++ replicate 6 48 in
    let within : i < length padded = simp length-append (omega arith) in
    let value : digits_value 10 (take (i + 1) padded) ≡ digits_value 10 (take i padded) * 10 + digit_value (get_or padded i 0) = digits_value_more 10 padded i within in
    let same : digit_value (get_or padded i 0) ≡ digit_value (get_or text i 48) = ap digit_value (padded_at text 6 i lt) in
    let power : 10 ^ (i + 1) ≡ 10 ^ i * 10 = rw add-one (pow-suc 10 i) in
    (omega arith, omega arith)
