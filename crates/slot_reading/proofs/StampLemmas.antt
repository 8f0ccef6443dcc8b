-- A stamp as a value.
use Rattle.std.proofs.Common.{◌≡◌, Bool, true, false, ◌==◌, ℤ, refl, sym, ◌∙◌, ap, arith}
use Rattle.std.proofs.lemmas.Bool.{and_from}
use Rattle.std.proofs.lemmas.Bool.Decides.{nat_tests}
use Rattle.std.proofs.lemmas.Int.{ints}
use Rattle.lp_values.specs.declared.part.Part.{Part}
use Rattle.lp_values.specs.declared.part.Part.TheVariants.{Date, Time, Both}
use Rattle.lp_values.specs.declared.stamp.Stamp.{Stamp}
use Rattle.lp_values.specs.declared.value.Value.TheVariants as V
use Rattle.lp_values.specs.Moments.{second_of_day}
use Rattle.lp_values.specs.Stamps.{IsStamp, IsInYears}
use Rattle.lp_values.proofs.StampLemmas.{stamps_same}
use Rattle.slot_reading.specs.Existing.{is_in_years, is_stamp}
use Rattle.slot_reading.specs.Stamps.{stamp_if, stamp_value}

years_told : (seconds : ℤ) → IsInYears seconds → is_in_years seconds ≡ true
years_told seconds (low, high) = grind (arith, nat_tests, ints)

-- the test tells each stamp that there is
is_stamp-told : (part : Part) (seconds : ℤ) → IsStamp seconds part → is_stamp part seconds ≡ true
is_stamp-told Date seconds exists =
    let whole : second_of_day seconds ≡ 0 = exists.whole_day refl in
    and_from (is_in_years seconds) (second_of_day seconds == 0) (years_told seconds exists.in_years) (grind (arith, nat_tests))
is_stamp-told Time seconds exists = let day = exists.first_day refl in grind (arith, nat_tests, ints)
is_stamp-told Both seconds exists = years_told seconds exists.in_years

stamp_if-told : (s : Stamp) (exists : Bool) (e : is_stamp s.part s.seconds ≡ exists) → exists ≡ true → stamp_if s.part s.seconds exists e ≡ V.Stamp s
stamp_if-told s true e told = ap V.Stamp (stamps_same _ s refl refl)
stamp_if-told s false e told = absurd cc

-- a stamp is the value of its part and its seconds
pub stamp_value-is : (s : Stamp) → stamp_value s.part s.seconds ≡ V.Stamp s
unfolding stamp_value
stamp_value-is s = stamp_if-told s (is_stamp s.part s.seconds) refl (is_stamp-told s.part s.seconds s.exists)

pub stamp_value-at : (s : Stamp) (part : Part) → s.part ≡ part → V.Stamp s ≡ stamp_value part s.seconds
stamp_value-at s part e = sym (stamp_value-is s) ∙ ap (λ p. stamp_value p s.seconds) e
