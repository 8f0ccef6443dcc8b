-- Values as numbers.
use Rattle.std.specs.Prelude.{ℕ, List, ℤ, pos, ◌*ℤ◌, int_div, Option, Some, None}
use Rattle.lp_values.specs.declared.value.Value.{Value}
use Rattle.lp_values.specs.declared.value.Value.TheVariants.{Null, Int, Real, Text, Stamp}
use Rattle.lp_values.specs.Arithmetic.{kept, real_of, quantized_of}
use Rattle.lp_values.specs.Readings.{integer_in, real_in}
use Rattle.lp_time.specs.Days.{quantized}
use Rattle.slot_reading.specs.Slots.{or_null}
use Rattle.slot_reading.specs.Stamps.{stamp_value}

-- TO_INT
abbrev pub to_int : Value → Value
to_int Null = Null
to_int (Int number) = Int number
to_int (Real number) = Int (int_div number.millionths (pos 1_000_000))
to_int (Text text) = or_null Int (integer_in text)
to_int (Stamp stamp) = Null

-- a whole number as a Real, or NULL outside 64 bits
abbrev pub real_from : ℤ → Value
real_from number = kept real_of (Some (number *ℤ pos 1_000_000))

-- the number that a text is, a whole one or one with a point
abbrev pub integer_or_real : Option ℤ → List ℕ → Value
integer_or_real (Some number) text = real_from number
integer_or_real None text = or_null Real (real_in text)

-- TO_REAL
abbrev pub to_real : Value → Value
to_real Null = Null
to_real (Int number) = real_from number
to_real (Real number) = Real number
to_real (Text text) = integer_or_real (integer_in text) text
to_real (Stamp stamp) = Null

-- QUANTIZE
abbrev pub quantized_value : Value → Value → Value
quantized_value (Stamp stamp) (Int step) = or_null (stamp_value stamp.part) (quantized stamp.part stamp.seconds step)
quantized_value a b = quantized_of a b
