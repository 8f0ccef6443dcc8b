-- Texts as values.
use Rattle.std.specs.Prelude.{ℕ, List, Result, Ok, Err}
use Rattle.std.specs.Str.Lossy.{utf8_lossy}
use Rattle.lp_values.specs.declared.value.Value.{Value}
use Rattle.lp_values.specs.declared.value.Value.TheVariants.{Null, Text, Stamp}
use Rattle.lp_values.specs.declared.stamp.Stamp as S
use Rattle.lp_values.specs.Civil.{civil_of}
use Rattle.lp_values.specs.Printed.{printed}
use Rattle.lp_time.specs.declared.piece.Piece.{Piece}
use Rattle.lp_time.specs.Patterns.{pattern_in}
use Rattle.lp_time.specs.Writings.{written}
use Rattle.slot_reading.specs.Slots.{or_null}
use Rattle.text_functions.specs.Replacing.{within}

-- a text of at most 16,777,216 bytes; a longer one is NULL
abbrev pub text_value : List ℕ → Value
text_value text = or_null Text (within 16_777_216 text)

-- TO_STRING(V)
abbrev pub to_string : Value → Value
to_string Null = Null
to_string value = text_value (printed value)

abbrev pub written_by : Result (List Piece) ℕ → S.Stamp → Value
written_by (Ok pattern) stamp = text_value (utf8_lossy (written pattern (civil_of stamp.seconds)))
written_by (Err at) stamp = Null

-- TO_STRING(S, pattern)
abbrev pub to_string_by : Value → Value → Value
to_string_by (Stamp stamp) (Text pattern) = written_by (pattern_in pattern) stamp
to_string_by a b = Null

-- a stamp written by a pattern that is known
abbrev pub written_as : List Piece → Value → Value
written_as pattern (Stamp stamp) = written_by (Ok pattern) stamp
written_as pattern value = Null
