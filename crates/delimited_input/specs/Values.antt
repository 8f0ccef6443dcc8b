-- The value of a field in a column of a kind.
use Rattle.std.specs.Prelude.{ℕ, List, ℤ, pos, ◌*ℤ◌, Option, Some, None}
use Rattle.std.specs.Str.Lossy.{utf8_lossy}
use Rattle.lp_time.specs.Readings.{pattern_part, seconds_in}
use Rattle.lp_time.specs.declared.piece.Piece.{Piece}
use Rattle.lp_values.specs.Arithmetic.{kept, real_of}
use Rattle.lp_values.specs.Readings.{integer_in, real_in}
use Rattle.lp_values.specs.declared.kind.Kind.{Kind}
use Rattle.lp_values.specs.declared.kind.Kind.TheVariants as K
use Rattle.lp_values.specs.declared.value.Value.{Value}
use Rattle.lp_values.specs.declared.value.Value.TheVariants.{Null, Int, Real, Text}
use Rattle.slot_reading.specs.Slots.{or_null}
use Rattle.slot_reading.specs.Stamps.{stamp_value as stamp_of}

-- an integer as a real, or NULL where that is outside 64 bits of millionths
abbrev pub real_of_integer : ℤ → Value
real_of_integer number = kept real_of (Some (number *ℤ pos 1_000_000))

-- an integer as a real, or else a number with decimals
abbrev pub number_or : Option ℤ → Value → Value
number_or None other = other
number_or (Some number) other = real_of_integer number

abbrev pub number_value : List ℕ → Value
number_value text = number_or (integer_in text) (or_null Real (real_in text))

abbrev pub stamp_value : List Piece → List ℕ → Value
stamp_value pattern text = or_null (stamp_of (pattern_part pattern)) (seconds_in pattern text)

-- the value of a text; one that doesn't read in its column's kind is NULL
abbrev pub text_value : Kind → List Piece → List ℕ → Value
text_value K.Integer pattern text = or_null Int (integer_in text)
text_value K.Real pattern text = number_value text
text_value K.Text pattern text = Text text
text_value K.Stamp pattern text = stamp_value pattern text
text_value K.Any pattern text = Null

-- the value of a field's bytes; what is no UTF-8 is repaired first, as where kinds are judged
abbrev pub filled_value : Kind → List Piece → List ℕ → Value
filled_value kind pattern bytes = text_value kind pattern (utf8_lossy bytes)

-- the value of a field; one that is missing is NULL
abbrev pub field_value : Kind → List Piece → Option (List ℕ) → Value
field_value kind pattern None = Null
field_value kind pattern (Some bytes) = filled_value kind pattern bytes
