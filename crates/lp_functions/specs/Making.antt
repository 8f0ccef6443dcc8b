-- Texts made of others, as values.
use Rattle.std.specs.Prelude.{◌++◌, map}
use Rattle.std.specs.Char.{to_ascii_lowercase, to_ascii_uppercase}
use Rattle.text_functions.specs.Replacing.{replaced, replaced_characters}
use Rattle.lp_functions.specs.Texts.{text_value}
use Rattle.lp_values.specs.declared.value.Value.{Value}
use Rattle.lp_values.specs.declared.value.Value.TheVariants.{Null, Text}

-- STRCAT
abbrev pub strcat_value : Value → Value → Value
strcat_value (Text first) (Text second) = text_value (first ++ second)
strcat_value a b = Null

-- REPLACE_STR
abbrev pub replace_str_value : Value → Value → Value → Value
replace_str_value (Text text) (Text part) (Text by) = text_value (replaced text part by)
replace_str_value a b c = Null

-- REPLACE_CHR
abbrev pub replace_chr_value : Value → Value → Value → Value
replace_chr_value (Text text) (Text some) (Text by) = text_value (replaced_characters text some by)
replace_chr_value a b c = Null

-- TO_LOWERCASE
abbrev pub to_lowercase_value : Value → Value
to_lowercase_value (Text text) = text_value (map to_ascii_lowercase text)
to_lowercase_value a = Null

-- TO_UPPERCASE
abbrev pub to_uppercase_value : Value → Value
to_uppercase_value (Text text) = text_value (map to_ascii_uppercase text)
to_uppercase_value a = Null
