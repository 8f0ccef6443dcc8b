-- The civil date and time of Unix seconds.
use Rattle.std.specs.Prelude.{ℕ, ◌+◌, ◌*◌, ◌/◌, ◌%◌, ℤ, pos, ◌*ℤ◌}
use Rattle.jiff_core.specs.Calendar.{days_from_civil}
use Rattle.lp_values.specs.declared.civil.Civil.{Civil}
use Rattle.lp_values.specs.Moments.{day_number, second_of_day, year_of, month_of, day_of}

abbrev pub civil_of : ℤ → Civil
civil_of seconds = record {
  year = year_of (day_number seconds);
  month = month_of (day_number seconds);
  day = day_of (day_number seconds);
  hour = second_of_day seconds / 3600;
  minute = second_of_day seconds / 60 % 60;
  second = second_of_day seconds % 60;
}

-- Unix seconds of the day
abbrev pub day_seconds : Civil → ℤ
day_seconds civil = days_from_civil (pos civil.year) civil.month civil.day *ℤ pos 86_400

-- seconds of the time of day
abbrev pub time_seconds : Civil → ℕ
time_seconds civil = civil.hour * 3600 + civil.minute * 60 + civil.second
