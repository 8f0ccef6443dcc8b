-- The value that a field is.
use Rattle.std.specs.Prelude.{ℕ, List, if◌then◌else◌, Option, Some, None, option_and_then}
use Rattle.std.specs.Str.{is_utf8}
use Rattle.std.specs.Str.Lossy.{utf8_lossy}
use Rattle.lp_time.specs.CommonLog.{clf_seconds}
use Rattle.lp_time.specs.Readings.{pattern_part, seconds_in}
use Rattle.lp_values.specs.declared.kind.Kind.{Kind}
use Rattle.lp_values.specs.declared.kind.Kind.TheVariants as K
use Rattle.lp_values.specs.declared.part.Part.TheVariants.{Both}
use Rattle.lp_values.specs.declared.value.Value.{Value}
use Rattle.lp_values.specs.declared.value.Value.TheVariants as V
use Rattle.lp_values.specs.Readings.{integer_in, real_in}
use Rattle.slot_reading.specs.declared.reading.SlotReading.{SlotReading}
use Rattle.slot_reading.specs.declared.reading.SlotReading.TheVariants.{Integer, Real, Text, By, Clf}
use Rattle.slot_reading.specs.Stamps.{stamp_value}

-- bytes that are a text
abbrev pub utf8_text : List ℕ → Option (List ℕ)
utf8_text bytes = if is_utf8 bytes then Some bytes else None

-- the value made of what was read, or NULL
abbrev pub or_null : {T : Type 0} → (T → Value) → Option T → Value
or_null make None = V.Null
or_null make (Some x) = make x

-- the value that a field's bytes are; one that doesn't read is NULL
abbrev pub value_in : SlotReading → List ℕ → Value
value_in Integer bytes = or_null V.Int (option_and_then integer_in (utf8_text bytes))
value_in Real bytes = or_null V.Real (option_and_then real_in (utf8_text bytes))
value_in Text bytes = V.Text (utf8_lossy bytes)
value_in (By pattern) bytes = or_null (stamp_value (pattern_part pattern)) (option_and_then (seconds_in pattern) (utf8_text bytes))
value_in Clf bytes = or_null (stamp_value Both) (clf_seconds bytes)

-- the value of a field; one that the log doesn't have is NULL
abbrev pub value_of : SlotReading → Option (List ℕ) → Value
value_of reading None = V.Null
value_of reading (Some bytes) = value_in reading bytes

-- the kind of a column
abbrev pub kind_of : SlotReading → Kind
kind_of Integer = K.Integer
kind_of Real = K.Real
kind_of Text = K.Text
kind_of (By pattern) = K.Stamp
kind_of Clf = K.Stamp
