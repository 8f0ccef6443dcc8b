-- Words: an option is `-name:value`, and any other word is the query.
use Rattle.std.specs.Prelude.{ℕ, Bool, false, not, ◌&&◌, List, [], ◌∷◌, ◌==◌, find, filter, unwrap_or, Option, option_map}
use Rattle.std.specs.List.{list_any, before_first, after_first}
use Rattle.command_words.specs.declared.setting.Setting.{Setting}
use Rattle.command_words.specs.Texts.{same_text}
use Rattle.command_words.specs.Settings.{settings, setting_name}

-- whether a word begins with `-`
abbrev pub is_option : List ℕ → Bool
is_option [] = false
is_option (byte ∷ bytes) = byte == 45

abbrev pub is_query : List ℕ → Bool
is_query word = not (is_option word)

abbrev pub is_colon : ℕ → Bool
is_colon byte = byte == 58

-- whether a word gives an option: up to its first colon it is the option's name, whatever its case
abbrev pub gives : Setting → List ℕ → Bool
gives setting word = list_any is_colon word && same_text (before_first is_colon word) (setting_name setting)

-- the option that a word gives
abbrev pub setting_of : List ℕ → Option Setting
setting_of word = find (λ setting. gives setting word) settings

-- what stands behind a word's first colon
abbrev pub value_in : List ℕ → List ℕ
value_in word = after_first is_colon word

-- the value of the first word that gives an option
abbrev pub given : Setting → List (List ℕ) → Option (List ℕ)
given setting words = option_map value_in (find (gives setting) words)

-- the words that are options, as they stand
abbrev pub options_in : List (List ℕ) → List (List ℕ)
options_in words = filter is_option words

-- the query word
abbrev pub query_in : List (List ℕ) → List ℕ
query_in words = unwrap_or (find is_query words) []
