-- Lengths and positions as values.
use Rattle.std.specs.Prelude.{ℕ, length, pos}
use Rattle.std.specs.Str.{chars}
use Rattle.slot_reading.specs.Slots.{or_null}
use Rattle.text_functions.specs.Positions.{index_of, last_index_of}
use Rattle.text_functions.specs.Replacing.{count_of}
use Rattle.lp_values.specs.declared.value.Value.{Value}
use Rattle.lp_values.specs.declared.value.Value.TheVariants.{Null, Int, Text}

-- a length or a position
abbrev pub number_value : ℕ → Value
number_value n = Int (pos n)

-- STRLEN
abbrev pub strlen_value : Value → Value
strlen_value (Text text) = number_value (length (chars text))
strlen_value a = Null

-- STRCNT
abbrev pub strcnt_value : Value → Value → Value
strcnt_value (Text text) (Text part) = number_value (count_of text part)
strcnt_value a b = Null

-- INDEX_OF
abbrev pub index_of_value : Value → Value → Value
index_of_value (Text text) (Text part) = or_null number_value (index_of text part)
index_of_value a b = Null

-- LAST_INDEX_OF
abbrev pub last_index_of_value : Value → Value → Value
last_index_of_value (Text text) (Text part) = or_null number_value (last_index_of text part)
last_index_of_value a b = Null
