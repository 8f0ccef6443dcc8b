-- Reading up to three digits.
use Rattle.std.proofs.Common.{◌≡◌, ℕ, zero, suc, ◌+◌, ◌-◌, ◌*◌, ◌^◌, ◌<◌, ◌≤◌, true, List, length, take, get_or, arith, add-one}
use Rattle.std.proofs.Math.Nat.{pow-suc}
use Rattle.std.proofs.lemmas.Int.Digits.{digits_value_more}
use Rattle.std.specs.Str.Parse.{digits_value}
use Rattle.lp_values.specs.Readings.{is_digits}
use Rattle.lp_values.proofs.ReadingLemmas.{digit_is, model}
use Rattle.std.proofs.lemmas.Str.Parse.{digit_at}
use Rattle.std.specs.Int.{IsInRange}

pub power_below : (i : ℕ) → i < 3 → 10 ^ i ≤ 100
power_below zero lt = omega arith
power_below (suc zero) lt = omega arith
power_below (suc (suc zero)) lt = omega arith
power_below (suc (suc (suc i))) lt = absurd (omega arith)

pub digit_step : (text : List ℕ) (i n : ℕ) → is_digits text ≡ true → i < length text → n ≡ digits_value 10 (take i text) → n * 10 + (get_or text i 0 - 48) ≡ digits_value 10 (take (i + 1) text)
digit_step text i n all lt is = omega (arith, digits_value_more 10 text i lt, digit_is text i all lt)

pub digit_below : (text : List ℕ) (i n : ℕ) → is_digits text ≡ true → i < length text → n < 10 ^ i → n * 10 + (get_or text i 0 - 48) < 10 ^ (i + 1)
digit_below text i n all lt below =
    let power : 10 ^ (i + 1) ≡ 10 ^ i * 10 = rw add-one (pow-suc 10 i) in
    let digit : IsInRange 48 57 (get_or text i 0) = digit_at text i (model.to text all) lt in
    omega arith
