-- Values as dates and times.
use Rattle.std.specs.Prelude.{ℕ, List, pos, Result, Ok, Err}
use Rattle.lp_values.specs.declared.part.Part.TheVariants.{Date, Time, Both}
use Rattle.lp_values.specs.declared.value.Value.{Value}
use Rattle.lp_values.specs.declared.value.Value.TheVariants.{Null, Text, Stamp}
use Rattle.lp_values.specs.Moments.{second_of_day}
use Rattle.lp_time.specs.declared.piece.Piece.{Piece}
use Rattle.lp_time.specs.Days.{day_start, joined}
use Rattle.lp_time.specs.Patterns.{pattern_in}
use Rattle.lp_time.specs.Readings.{pattern_part, seconds_in}
use Rattle.slot_reading.specs.Slots.{or_null}
use Rattle.slot_reading.specs.Stamps.{stamp_value}

-- TO_DATE
abbrev pub to_date : Value → Value
to_date (Stamp stamp) = stamp_value Date (day_start stamp.seconds)
to_date value = Null

-- TO_TIME
abbrev pub to_time : Value → Value
to_time (Stamp stamp) = stamp_value Time (pos (second_of_day stamp.seconds))
to_time value = Null

abbrev pub read_by : Result (List Piece) ℕ → List ℕ → Value
read_by (Ok pattern) text = or_null (stamp_value (pattern_part pattern)) (seconds_in pattern text)
read_by (Err at) text = Null

-- TO_TIMESTAMP
abbrev pub to_timestamp : Value → Value → Value
to_timestamp (Text text) (Text pattern) = read_by (pattern_in pattern) text
to_timestamp (Stamp date) (Stamp time) = stamp_value Both (joined date.seconds time.seconds)
to_timestamp a b = Null

-- a text read as a stamp by a pattern that is known
abbrev pub read_as : List Piece → Value → Value
read_as pattern (Text text) = read_by (Ok pattern) text
read_as pattern value = Null
