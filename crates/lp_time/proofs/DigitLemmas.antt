-- Numbers of a few digits.
use Rattle.std.proofs.Common.{◌≡◌, ℕ, zero, suc, ◌+◌, ◌-◌, ◌*◌, ◌^◌, ◌<◌, ◌≤◌, true, List, length, take, get_or, arith, add-one}
use Rattle.std.proofs.Math.Nat.{pow-suc}
use Rattle.std.proofs.lemmas.Int.Digits.{digits_value_more}
use Rattle.std.proofs.lemmas.Str.Parse.{digit_at}
use Rattle.std.specs.Int.{IsInRange}
use Rattle.std.specs.Str.Parse.{digits_value}
use Rattle.lp_values.proofs.ReadingLemmas.{model, digit_is}
use Rattle.lp_values.specs.Readings.{is_digits}

pub power_below : (k : ℕ) → k < 4 → 10 ^ k ≤ 1000
power_below zero lt = omega arith
power_below (suc zero) lt = omega arith
power_below (suc (suc zero)) lt = omega arith
power_below (suc (suc (suc zero))) lt = omega arith
power_below (suc (suc (suc (suc k)))) lt = absurd (omega arith)

pub power_most : (k : ℕ) → k ≤ 4 → 10 ^ k ≤ 10_000
power_most zero le = omega arith
power_most (suc k) le = let below = power_below k (omega arith) in let more = pow-suc 10 k in omega arith

-- a digit is at most nine
pub digit_small : (text : List ℕ) (i : ℕ) → is_digits text ≡ true → i < length text → (48 ≤ get_or text i 0) × (get_or text i 0 ≤ 57)
digit_small text i all lt = let range : IsInRange 48 57 (get_or text i 0) = digit_at text i (model.to text all) lt in (omega arith, omega arith)

pub few_step : (text : List ℕ) (i n : ℕ) → is_digits text ≡ true → i < length text → n ≡ digits_value 10 (take i text) → n < 10 ^ i
    → (n * 10 + (get_or text i 0 - 48) ≡ digits_value 10 (take (i + 1) text)) × (n * 10 + (get_or text i 0 - 48) < 10 ^ (i + 1))
few_step text i n all lt is below =
    let more = digits_value_more 10 text i lt in
    let value = digit_is text i all lt in
    let small = digit_small text i all lt in
    let power : 10 ^ (i + 1) ≡ 10 ^ i * 10 = rw add-one (pow-suc 10 i) in
    (omega arith, omega arith)
