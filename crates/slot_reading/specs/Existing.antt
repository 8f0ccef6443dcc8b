-- Whether there is a stamp.
use Rattle.std.specs.Prelude.{◌≡◌, Bool, true, ◌&&◌, ◌==◌, ℤ, pos, neg_ℤ, ◌≤ℤ◌, ◌<ℤ◌, int_le}
use Rattle.std.proofs.Common.{arith}
use Rattle.std.proofs.lemmas.Bool.{and_parts, eqb-true}
use Rattle.std.proofs.lemmas.Bool.Decides.{nat_tests}
use Rattle.std.proofs.lemmas.Int.{ints}
use Rattle.lp_values.specs.declared.part.Part.{Part}
use Rattle.lp_values.specs.declared.part.Part.TheVariants.{Date, Time, Both}
use Rattle.lp_values.specs.Moments.{second_of_day}
use Rattle.lp_values.specs.Stamps.{IsStamp, IsInYears}

-- from 0001-01-01 00:00:00 to 9999-12-31 23:59:59
abbrev pub is_in_years : ℤ → Bool
is_in_years seconds = int_le (neg_ℤ (pos 62_135_596_800)) seconds && int_le seconds (pos 253_402_300_799)

-- a date is a whole day, and a time lies in the first day of 1970
abbrev pub is_stamp : Part → ℤ → Bool
is_stamp Date seconds = is_in_years seconds && (second_of_day seconds == 0)
is_stamp Time seconds = int_le (pos 0) seconds && int_le seconds (pos 86_399)
is_stamp Both seconds = is_in_years seconds

in_years : (seconds : ℤ) → is_in_years seconds ≡ true → IsInYears seconds
in_years seconds e = grind (arith, nat_tests, ints)

first_day : (seconds : ℤ) → is_stamp Time seconds ≡ true → (pos 0 ≤ℤ seconds) × (seconds <ℤ pos 86_400)
first_day seconds e = grind (arith, nat_tests, ints)

in_first_day : (seconds : ℤ) → is_stamp Time seconds ≡ true → IsInYears seconds
in_first_day seconds e = grind (arith, nat_tests, ints)

-- the test tells that there is one
pub IsStamp-tested : (part : Part) (seconds : ℤ) → is_stamp part seconds ≡ true → IsStamp seconds part
IsStamp-tested Date seconds e =
    let both = and_parts (is_in_years seconds) (second_of_day seconds == 0) e in
    record { in_years = in_years seconds both.0; whole_day = λ h. eqb-true (second_of_day seconds) 0 both.1; first_day = λ h. absurd cc }
IsStamp-tested Time seconds e = record { in_years = in_first_day seconds e; whole_day = λ h. absurd cc; first_day = λ h. first_day seconds e }
IsStamp-tested Both seconds e = record { in_years = in_years seconds e; whole_day = λ h. absurd cc; first_day = λ h. absurd cc }
