-- Bytes that are digits alone.
use Rattle.std.proofs.Common.{◌≡◌, ℕ, ◌+◌, ◌-◌, ◌*◌, ◌^◌, ◌<◌, ◌≤◌, Bool, true, false, ◌==◌, List, [], ◌∷◌, length, take, get_or, min, cond, pos, neg_ℤ, FitsSigned, w64, Some, refl, sym, ap, subst, ◌∙◌, arith}
use Rattle.std.proofs.lemmas.Bool.Decides.{nat_tests}
use Rattle.std.proofs.lemmas.Fmt.{IsAscii-from_digits}
use Rattle.std.proofs.lemmas.Int.Digits.{digits_value_more}
use Rattle.std.proofs.lemmas.List.{take_all}
use Rattle.std.proofs.lemmas.List.Folds.{list_all_more}
use Rattle.std.proofs.lemmas.Str.{digit_value_digit, is_utf8-from_IsUtf8, IsUtf8-from_ascii}
use Rattle.std.specs.Char.{is_ascii_digit}
use Rattle.std.specs.Cmp.{first_so}
use Rattle.std.specs.declared.result.Result.TheVariants.{Ok}
use Rattle.std.specs.Str.Parse.{digits_value, without_leading_sign, starts_with_minus, signed_digits_value, IsNumeral}
use Rattle.lp_values.proofs.ReadingLemmas.{model, integer_read}
use Rattle.lp_values.specs.Readings.{is_digits, integer_in}
use Rattle.lp_values.specs.declared.value.Value.TheVariants as V
use Rattle.slot_reading.specs.declared.reading.SlotReading.TheVariants.{Integer}
use Rattle.slot_reading.specs.Slots.{value_in, or_null}

-- the digits so far
pub record Counted (bytes : List ℕ) (i n : ℕ) : Type 0 where
  pub digits : is_digits (take i bytes) ≡ true
  pub number : n ≡ min (digits_value 10 (take i bytes)) (2 ^ 64 - 1)

digit_range : (b : ℕ) → is_ascii_digit b ≡ true → (48 ≤ b) × (b ≤ 57)
digit_range b e = grind (arith, nat_tests)

pub counted_more : (bytes : List ℕ) (i n : ℕ) → Counted bytes i n → i < length bytes → is_ascii_digit (get_or bytes i 0) ≡ true
    → Counted bytes (i + 1) (min (min (n * 10) (2 ^ 64 - 1) + (get_or bytes i 0 - 48)) (2 ^ 64 - 1))
counted_more bytes i n so_far here digit =
    let range = digit_range (get_or bytes i 0) digit in
    let value = digit_value_digit (get_or bytes i 0) range in
    record {
      digits = list_all_more is_ascii_digit bytes i 0 here ∙ rw (so_far.digits, digit) refl;
      number = omega (arith, so_far.number, digits_value_more 10 bytes i here, value, range.0, range.1);
    }

no_minus : (bytes : List ℕ) → is_digits bytes ≡ true → starts_with_minus bytes ≡ false
no_minus [] e = refl
no_minus (b ∷ bs) e = let range = digit_range b (first_so (is_ascii_digit b) (is_digits bs) e) in grind (arith, nat_tests, range)

no_sign : (bytes : List ℕ) → is_digits bytes ≡ true → without_leading_sign bytes ≡ bytes
no_sign [] e = refl
no_sign (b ∷ bs) e =
    let range = digit_range b (first_so (is_ascii_digit b) (is_digits bs) e) in
    let minus : (b == 45) ≡ false = grind (arith, nat_tests, range) in
    let plus : (b == 43) ≡ false = grind (arith, nat_tests, range) in
    rw (minus, plus) refl

signed_value : (bytes : List ℕ) → is_digits bytes ≡ true → signed_digits_value 10 bytes ≡ pos (digits_value 10 bytes)
signed_value bytes e = chosen (starts_with_minus bytes) (digits_value 10 (without_leading_sign bytes)) (no_minus bytes e) ∙ ap (λ t. pos (digits_value 10 t)) (no_sign bytes e)
  where
    chosen : (b : Bool) (n : ℕ) → b ≡ false → cond b (neg_ℤ (pos n)) (pos n) ≡ pos n
    chosen true n e = absurd cc
    chosen false n e = refl

pub in_bits : (n : ℕ) → n < 2 ^ 63 → FitsSigned w64 (pos n)
in_bits n small = record { sfits = small }

integer_is : (bytes : List ℕ) (n : ℕ) → 0 < length bytes → is_digits bytes ≡ true → n ≡ digits_value 10 bytes → n < 2 ^ 63 → Some (pos n) ≡ integer_in bytes
integer_is bytes n some all value small =
    let signed : pos n ≡ signed_digits_value 10 bytes = ap pos value ∙ sym (signed_value bytes all) in
    integer_read {E = ℕ} bytes (Ok (pos n)) ((subst (λ (t : List ℕ). IsNumeral 10 t) (sym (no_sign bytes all)) (some, model.to bytes all), subst (FitsSigned w64) signed (in_bits n small)), signed)

-- the number of digits alone is the field's
pub number_is : (bytes : List ℕ) (n : ℕ) → 0 < length bytes → is_digits bytes ≡ true → n ≡ digits_value 10 bytes → n < 2 ^ 63 → V.Int (pos n) ≡ value_in Integer bytes
number_is bytes n some all value small =
    let utf8 = is_utf8-from_IsUtf8 bytes (IsUtf8-from_ascii bytes (IsAscii-from_digits bytes (model.to bytes all))) in
    rw utf8 (ap (or_null V.Int) (integer_is bytes n some all value small))

pub counted_all : (bytes : List ℕ) (i n : ℕ) → Counted bytes i n → length bytes ≤ i → 0 < length bytes → n < 2 ^ 63 → V.Int (pos n) ≡ value_in Integer bytes
counted_all bytes i n counted past some small =
    let whole : take i bytes ≡ bytes = take_all i bytes past in
    let number = counted.number ∙ ap (λ t. min (digits_value 10 t) (2 ^ 64 - 1)) whole in
    number_is bytes n some (ap is_digits (sym whole) ∙ counted.digits) (omega (arith, number)) small
