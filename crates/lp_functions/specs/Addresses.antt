-- Addresses of four numbers.
use Rattle.std.specs.Prelude.{ℕ, zero, suc, ◌+◌, ◌*◌, ◌/◌, ◌%◌, ◌&&◌, nat_le, List, ◌∷◌, ◌++◌, length, decimal, pos, if◌then◌else◌, Option, Some, None, option_map, option_and_then}
use Rattle.std.specs.List.{before_first, after_first}
use Rattle.std.specs.Str.Parse.{digits_value}
use Rattle.lp_values.specs.declared.value.Value.{Value}
use Rattle.lp_values.specs.declared.value.Value.TheVariants.{Null, Int, Text}
use Rattle.lp_values.specs.Readings.{is_numeral, is_point}
use Rattle.slot_reading.specs.Slots.{or_null}

-- a number from 0 to 255, of one to three digits
abbrev pub octet_in : List ℕ → Option ℕ
octet_in text = if is_numeral text && nat_le (length text) 3 && nat_le (digits_value 10 text) 255 then Some (digits_value 10 text) else None

-- such numbers between so many points, as digits of base 256 behind a number
abbrev pub address_behind : ℕ → ℕ → List ℕ → Option ℕ
address_behind number zero text = option_map (λ octet. number * 256 + octet) (octet_in text)
address_behind number (suc points) text = option_and_then (λ octet. address_behind (number * 256 + octet) points (after_first is_point text)) (octet_in (before_first is_point text))

abbrev pub address_in : List ℕ → Option ℕ
address_in text = address_behind 0 3 text

-- IPV4_TO_INT
abbrev pub ipv4_to_int : Value → Value
ipv4_to_int (Text text) = or_null (λ number. Int (pos number)) (address_in text)
ipv4_to_int value = Null

abbrev pub address_text : ℕ → List ℕ
address_text number = decimal (number / 16_777_216) ++ 46 ∷ decimal (number / 65_536 % 256) ++ 46 ∷ decimal (number / 256 % 256) ++ 46 ∷ decimal (number % 256)

-- INT_TO_IPV4
abbrev pub int_to_ipv4 : Value → Value
int_to_ipv4 (Int (pos number)) = if nat_le number 4_294_967_295 then Text (address_text number) else Null
int_to_ipv4 value = Null
