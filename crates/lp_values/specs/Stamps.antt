-- Which stamps there are.
use Rattle.std.specs.Prelude.{◌≡◌, ℤ, pos, neg_ℤ, ◌≤ℤ◌, ◌<ℤ◌}
use Rattle.lp_values.specs.declared.part.Part.{Part}
use Rattle.lp_values.specs.declared.part.Part.TheVariants.{Date, Time}
use Rattle.lp_values.specs.Moments.{second_of_day}

-- from 0001-01-01 00:00:00 to 9999-12-31 23:59:59
abbrev pub IsInYears : ℤ → Type 0
IsInYears seconds = (neg_ℤ (pos 62_135_596_800) ≤ℤ seconds) × (seconds ≤ℤ pos 253_402_300_799)

-- a date is a whole day, and a time lies in the first day of 1970
pub record IsStamp (seconds : ℤ) (part : Part) : Type 0 where
  pub in_years : IsInYears seconds
  pub whole_day : part ≡ Date → second_of_day seconds ≡ 0
  pub first_day : part ≡ Time → (pos 0 ≤ℤ seconds) × (seconds <ℤ pos 86_400)
