-- Parts of texts as values.
use Rattle.slot_reading.specs.Slots.{or_null}
use Rattle.text_functions.specs.Edges.{left_trimmed, right_trimmed, file_name, path_of, extension}
use Rattle.text_functions.specs.Positions.{substring, substring_from}
use Rattle.lp_functions.specs.Texts.{text_value}
use Rattle.lp_values.specs.declared.value.Value.{Value}
use Rattle.lp_values.specs.declared.value.Value.TheVariants.{Null, Int, Text}

-- TRIM
abbrev pub trim_value : Value → Value
trim_value (Text text) = text_value (right_trimmed (left_trimmed text))
trim_value a = Null

-- LTRIM
abbrev pub ltrim_value : Value → Value
ltrim_value (Text text) = text_value (left_trimmed text)
ltrim_value a = Null

-- RTRIM
abbrev pub rtrim_value : Value → Value
rtrim_value (Text text) = text_value (right_trimmed text)
rtrim_value a = Null

-- EXTRACT_FILENAME
abbrev pub extract_filename_value : Value → Value
extract_filename_value (Text text) = text_value (file_name text)
extract_filename_value a = Null

-- EXTRACT_PATH
abbrev pub extract_path_value : Value → Value
extract_path_value (Text text) = text_value (path_of text)
extract_path_value a = Null

-- EXTRACT_EXTENSION
abbrev pub extract_extension_value : Value → Value
extract_extension_value (Text text) = or_null text_value (extension text)
extract_extension_value a = Null

-- SUBSTR, to the end
abbrev pub rest_from_value : Value → Value → Value
rest_from_value (Text text) (Int from) = or_null text_value (substring_from text from)
rest_from_value a b = Null

-- SUBSTR
abbrev pub substr_value : Value → Value → Value → Value
substr_value (Text text) (Int from) (Int most) = or_null text_value (substring text from most)
substr_value a b c = Null
