-- Parts of texts between separators, as values.
use Rattle.std.specs.Prelude.{Some, None}
use Rattle.slot_reading.specs.Slots.{or_null}
use Rattle.text_functions.specs.Tokens.{token, value, prefix, suffix}
use Rattle.lp_functions.specs.Texts.{text_value}
use Rattle.lp_values.specs.declared.value.Value.{Value}
use Rattle.lp_values.specs.declared.value.Value.TheVariants.{Null, Int, Text}

-- EXTRACT_TOKEN, between commas
abbrev pub token_of_list_value : Value → Value → Value
token_of_list_value (Text text) (Int index) = or_null text_value (token text index None)
token_of_list_value a b = Null

-- EXTRACT_TOKEN
abbrev pub extract_token_value : Value → Value → Value → Value
extract_token_value (Text text) (Int index) (Text separator) = or_null text_value (token text index (Some separator))
extract_token_value a b c = Null

-- EXTRACT_VALUE, between ampersands
abbrev pub value_of_query_value : Value → Value → Value
value_of_query_value (Text text) (Text name) = or_null text_value (value text name None)
value_of_query_value a b = Null

-- EXTRACT_VALUE
abbrev pub extract_value_value : Value → Value → Value → Value
extract_value_value (Text text) (Text name) (Text separator) = or_null text_value (value text name (Some separator))
extract_value_value a b c = Null

-- EXTRACT_PREFIX
abbrev pub extract_prefix_value : Value → Value → Value → Value
extract_prefix_value (Text text) (Int index) (Text separator) = or_null text_value (prefix text index separator)
extract_prefix_value a b c = Null

-- EXTRACT_SUFFIX
abbrev pub extract_suffix_value : Value → Value → Value → Value
extract_suffix_value (Text text) (Int index) (Text separator) = or_null text_value (suffix text index separator)
extract_suffix_value a b c = Null
