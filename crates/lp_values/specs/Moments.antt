-- The calendar: year, month and day of a day are the last that begin no later.
use Rattle.std.specs.Prelude.{ℕ, zero, suc, ◌+◌, ◌-◌, ◌/◌, ◌%◌, nat_lt, if◌then◌else◌, ℤ, pos, ◌+ℤ◌, unsigned_abs}
use Rattle.jiff_core.specs.Calendar.{day_count}

-- the greatest number up to k whose value is at most n, or 0
unfoldable pub last_within : (ℕ → ℕ) → ℕ → ℕ → ℕ
last_within f zero n = 0
last_within f (suc k) n = if nat_lt n (f (suc k)) then last_within f k n else suc k

-- the year from 0 to 9999 that has this day; days count from 1 January of the year -10000
abbrev pub year_of : ℕ → ℕ
year_of day = last_within (λ y. day_count (pos y) 1 1) 9999 day

-- the month that has it
abbrev pub month_of : ℕ → ℕ
month_of day = last_within (λ m. day_count (pos (year_of day)) m 1) 12 day

-- its place in the month
abbrev pub day_of : ℕ → ℕ
day_of day = day + 1 - day_count (pos (year_of day)) (month_of day) 1

-- seconds since the first of these days began, of Unix seconds
abbrev pub moment_of : ℤ → ℕ
moment_of seconds = unsigned_abs (seconds +ℤ pos 377_736_739_200)

abbrev pub day_number : ℤ → ℕ
day_number seconds = moment_of seconds / 86_400

abbrev pub second_of_day : ℤ → ℕ
second_of_day seconds = moment_of seconds % 86_400
