-- Texts read by a pattern.
use Rattle.std.specs.Prelude.{ℕ, ◌+◌, Bool, ◌&&◌, ◌||◌, List, [], ◌∷◌, length, take, drop, map, codes, nat_eq, nat_le, nat_lt, if◌then◌else◌, ℤ, pos, ◌+ℤ◌, Option, Some, None, option_map, option_and_then, position}
use Rattle.std.specs.Char.{to_ascii_lowercase}
use Rattle.std.specs.Cmp.Lexicographic.{pointwise}
use Rattle.std.specs.List.{starts_with}
use Rattle.std.specs.Str.Parse.{digits_value}
use Rattle.jiff_core.specs.Calendar.{days_in_month}
use Rattle.lp_values.specs.declared.civil.Civil.{Civil}
use Rattle.lp_values.specs.Civil.{day_seconds, time_seconds}
use Rattle.lp_values.specs.declared.part.Part.{Part}
use Rattle.lp_values.specs.declared.part.Part.TheVariants.{Date, Time, Both}
use Rattle.lp_values.specs.Readings.{is_digits}
use Rattle.lp_time.specs.declared.field.Field.{Field}
use Rattle.lp_time.specs.declared.field.Field.TheVariants as F
use Rattle.lp_time.specs.declared.piece.Piece.{Piece}
use Rattle.lp_time.specs.declared.piece.Piece.TheVariants.{Padded, Short, MonthName, Other}
use Rattle.lp_time.specs.Patterns.{has_field}

-- the number that the first bytes write, and what is left behind them
abbrev pub taken_digits : ℕ → List ℕ → Option (ℕ × List ℕ)
taken_digits count text = if nat_le count (length text) && is_digits (take count text) then Some (digits_value 10 (take count text), drop count text) else None

abbrev pub digits_of : Field → ℕ
digits_of F.Year = 4
digits_of F.Month = 2
digits_of F.Day = 2
digits_of F.Hour = 2
digits_of F.Minute = 2
digits_of F.Second = 2

-- two digits where two stand there, else one
abbrev pub short_size : List ℕ → ℕ
short_size text = if nat_le 2 (length text) && is_digits (take 2 text) then 2 else 1

abbrev pub month_names : List (List ℕ)
month_names = codes "Jan" ∷ codes "Feb" ∷ codes "Mar" ∷ codes "Apr" ∷ codes "May" ∷ codes "Jun" ∷ codes "Jul" ∷ codes "Aug" ∷ codes "Sep" ∷ codes "Oct" ∷ codes "Nov" ∷ codes "Dec" ∷ []

abbrev pub is_same_name : List ℕ → List ℕ → Bool
is_same_name a b = pointwise nat_eq (map to_ascii_lowercase a) (map to_ascii_lowercase b)

-- the month that the first three bytes name
abbrev pub taken_month : List ℕ → Option (ℕ × List ℕ)
taken_month text = option_map (λ place. (place + 1, drop 3 text)) (position (is_same_name (take 3 text)) month_names)

-- what a piece takes from the front of a text
abbrev pub taken : Piece → List ℕ → Option (ℕ × List ℕ)
taken (Padded field) text = taken_digits (digits_of field) text
taken (Short field) text = taken_digits (short_size text) text
taken MonthName text = taken_month text
taken (Other character) text = if starts_with nat_eq text character then Some (0, drop (length character) text) else None

-- the number of a piece is below this
abbrev pub room_of : Option Field → ℕ
room_of None = 1
room_of (Some F.Year) = 10_000
room_of (Some F.Month) = 100
room_of (Some F.Day) = 100
room_of (Some F.Hour) = 100
room_of (Some F.Minute) = 100
room_of (Some F.Second) = 100

abbrev pub with_field : Field → ℕ → Civil → Civil
with_field F.Year number civil = record civil { year = number }
with_field F.Month number civil = record civil { month = number }
with_field F.Day number civil = record civil { day = number }
with_field F.Hour number civil = record civil { hour = number }
with_field F.Minute number civil = record civil { minute = number }
with_field F.Second number civil = record civil { second = number }

abbrev pub with_piece : Piece → ℕ → Civil → Civil
with_piece (Padded field) number civil = with_field field number civil
with_piece (Short field) number civil = with_field field number civil
with_piece MonthName number civil = with_field F.Month number civil
with_piece (Other character) number civil = civil

-- the parts that pieces read, onto others; a reading uses up the text
unfoldable pub read_onto : Civil → List Piece → List ℕ → Option Civil
read_onto civil [] [] = Some civil
read_onto civil [] (c ∷ cs) = None
read_onto civil (piece ∷ pieces) text = option_and_then (λ front. read_onto (with_piece piece front.0 civil) pieces front.1) (taken piece text)

abbrev pub has_date : List Piece → Bool
has_date pieces = has_field pieces F.Year || has_field pieces F.Month || has_field pieces F.Day

abbrev pub has_time : List Piece → Bool
has_time pieces = has_field pieces F.Hour || has_field pieces F.Minute || has_field pieces F.Second

abbrev pub pattern_part : List Piece → Part
pattern_part pieces = if has_date pieces then (if has_time pieces then Both else Date) else Time

-- what stands where items are missing
abbrev pub missing_parts : Civil
missing_parts = record { year = 2000; month = 1; day = 1; hour = 0; minute = 0; second = 0 }

-- the calendar has the date and the day has the time
abbrev pub is_existing : Civil → Bool
is_existing civil =
    nat_le 1 civil.year && nat_le civil.year 9999 && nat_le 1 civil.month && nat_le civil.month 12
    && nat_le 1 civil.day && nat_le civil.day (days_in_month (pos civil.year) civil.month)
    && nat_lt civil.hour 24 && nat_lt civil.minute 60 && nat_lt civil.second 60

-- a time lies in the first day of 1970
abbrev pub unix_seconds : Part → Civil → ℤ
unix_seconds Date civil = day_seconds civil
unix_seconds Time civil = pos (time_seconds civil)
unix_seconds Both civil = day_seconds civil +ℤ pos (time_seconds civil)

abbrev pub existing_seconds : Part → Civil → Option ℤ
existing_seconds part civil = if is_existing civil then Some (unix_seconds part civil) else None

-- the seconds of the stamp that a text is
abbrev pub seconds_in : List Piece → List ℕ → Option ℤ
seconds_in pieces text = option_and_then (existing_seconds (pattern_part pieces)) (read_onto missing_parts pieces text)
