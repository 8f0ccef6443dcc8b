-- The numbers that texts are.
use Rattle.std.specs.Prelude.{ℕ, ◌+◌, ◌*◌, Bool, ◌&&◌, List, ◌++◌, length, take, replicate, nat_lt, ◌==◌, if◌then◌else◌, ℤ, pos, neg_ℤ, Option, Some, None, option_map}
use Rattle.std.specs.List.{list_all, before_first, after_first}
use Rattle.std.specs.Char.{is_ascii_digit}
use Rattle.std.specs.Str.Parse.{digits_value, without_leading_sign, starts_with_minus}
use Rattle.lp_values.specs.declared.real.Real.{Real}
use Rattle.lp_values.specs.Arithmetic.{is_in_64_bits}

abbrev pub within_64_bits : ℤ → Option ℤ
within_64_bits number = if is_in_64_bits number then Some number else None

-- digits, and nothing else
abbrev pub is_digits : List ℕ → Bool
is_digits text = list_all is_ascii_digit text

-- one digit or more, and nothing else
abbrev pub is_numeral : List ℕ → Bool
is_numeral text = nat_lt 0 (length text) && is_digits text

-- a number under the sign that a text begins with
abbrev pub signed_by : List ℕ → ℕ → ℤ
signed_by text number = if starts_with_minus text then neg_ℤ (pos number) else pos number

-- an optional sign, and digits
abbrev pub integer_in : List ℕ → Option ℤ
integer_in text = let digits = without_leading_sign text in
    if is_numeral digits then within_64_bits (signed_by text (digits_value 10 digits)) else None

abbrev pub is_point : ℕ → Bool
is_point byte = byte == 46

-- the first six of some decimals
abbrev pub millionths_of : List ℕ → ℕ
millionths_of decimals = digits_value 10 (take 6 (decimals ++ replicate 6 48))

-- an optional sign, digits or none, a point, and one digit or more
abbrev pub millionths_in : List ℕ → Option ℤ
millionths_in text =
    let whole = before_first is_point (without_leading_sign text) in
    let decimals = after_first is_point (without_leading_sign text) in
    if is_digits whole && is_numeral decimals
    then within_64_bits (signed_by text (digits_value 10 whole * 1_000_000 + millionths_of decimals)) else None

abbrev pub real_in : List ℕ → Option Real
real_in text = option_map (λ number. record { millionths = number }) (millionths_in text)
