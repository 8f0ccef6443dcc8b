-- Days and times of day.
use Rattle.std.proofs.Common.{◌≡◌, ℕ, ◌<◌, ℤ, pos, arith}
use Rattle.std.proofs.lemmas.Int.{ints}
use Rattle.lp_values.specs.Moments.{second_of_day}
use Rattle.lp_values.specs.Stamps.{IsInYears}
use Rattle.lp_time.specs.Days.{day_start, joined}

pub first_second : (x : ℕ) → x < 86_400 → second_of_day (pos x) ≡ x
first_second x lt = omega arith

-- a day and a time of day give the moment back
whole_day : (s : ℤ) → IsInYears s → second_of_day (day_start s) ≡ 0
whole_day s years = omega (arith, ints)

pub joined_parts : (s : ℤ) → IsInYears s → joined (day_start s) (pos (second_of_day s)) ≡ s
joined_parts s years =
    let whole : second_of_day (day_start s) ≡ 0 = whole_day s years in
    let small : second_of_day s < 86_400 = omega arith in
    let same : second_of_day (pos (second_of_day s)) ≡ second_of_day s = first_second (second_of_day s) small in
    rw (whole, same) (omega (arith, ints))
