-- Days and times of day of Unix seconds.
use Rattle.std.specs.Prelude.{zero, suc, ℤ, pos, negsuc, neg_ℤ, ◌+ℤ◌, ◌-ℤ◌, int_le, if◌then◌else◌, Option, Some, None, option_map}
use Rattle.std.specs.Int.{int_rem_euclid}
use Rattle.lp_values.specs.declared.part.Part.{Part}
use Rattle.lp_values.specs.declared.part.Part.TheVariants.{Date, Time, Both}
use Rattle.lp_values.specs.Moments.{second_of_day}

-- the second at which a moment's day begins
abbrev pub day_start : ℤ → ℤ
day_start seconds = seconds -ℤ pos (second_of_day seconds)

-- one moment's day with another's time of day
abbrev pub joined : ℤ → ℤ → ℤ
joined date time = day_start date +ℤ pos (second_of_day time)

abbrev pub within_years : ℤ → Option ℤ
within_years seconds = if int_le (neg_ℤ (pos 62_135_596_800)) seconds then Some seconds else None

-- down to a multiple of a number above 0, counted from 1970-01-01; none before the year 1
abbrev pub multiple_of : ℤ → ℤ → Option ℤ
multiple_of seconds (pos zero) = None
multiple_of seconds (pos (suc n)) = within_years (seconds -ℤ int_rem_euclid seconds (pos (suc n)))
multiple_of seconds (negsuc n) = None

-- a date then down to a day
abbrev pub down_to_part : Part → ℤ → ℤ
down_to_part Date seconds = day_start seconds
down_to_part Time seconds = seconds
down_to_part Both seconds = seconds

abbrev pub quantized : Part → ℤ → ℤ → Option ℤ
quantized part seconds step = option_map (down_to_part part) (multiple_of seconds step)
