-- Texts in URLs.
use Rattle.std.specs.Prelude.{ℕ, ◌/◌, ◌%◌, Bool, true, ◌||◌, ◌&&◌, ◌==◌, nat_le, List, [], ◌∷◌, if◌then◌else◌}
use Rattle.std.specs.List.{flat_map}
use Rattle.std.specs.Fmt.{digit_glyph}
use Rattle.std.specs.Str.Lossy.{utf8_lossy}
use Rattle.percent_encoding.specs.Percent.{percent_decode}
use Rattle.lp_values.specs.declared.value.Value.{Value}
use Rattle.lp_values.specs.declared.value.Value.TheVariants.{Null, Text}
use Rattle.lp_functions.specs.Texts.{text_value}

abbrev pub is_from : ℕ → ℕ → ℕ → Bool
is_from low high byte = nat_le low byte && nat_le byte high

-- letters, digits, `-`, `_`, `.` and `~`
abbrev pub is_plain : ℕ → Bool
is_plain byte = is_from 48 57 byte || is_from 65 90 byte || is_from 97 122 byte || byte == 45 || byte == 95 || byte == 46 || byte == 126

-- a byte, or `%` and its two digits of base 16 in capitals
abbrev pub escaped_byte : ℕ → List ℕ
escaped_byte byte = if is_plain byte then byte ∷ [] else 37 ∷ digit_glyph true (byte / 16 % 16) ∷ digit_glyph true (byte % 16) ∷ []

unfoldable pub escaped : List ℕ → List ℕ
escaped text = flat_map escaped_byte text

-- URLESCAPE
abbrev pub url_escape : Value → Value
url_escape (Text text) = text_value (escaped text)
url_escape value = Null

-- URLUNESCAPE: each `%` and two digits of base 16 is a byte, and what is no UTF-8 then is repaired
abbrev pub url_unescape : Value → Value
url_unescape (Text text) = text_value (utf8_lossy (percent_decode text))
url_unescape value = Null
