-- The numbers that values are.
use Rattle.std.specs.Prelude.{ℕ, Bool, ◌||◌, List, length, drop, nat_le, nat_lt, ◌&&◌, ◌==◌, slice_index, if◌then◌else◌, ℤ, pos, negsuc, Option, Some, None}
use Rattle.std.specs.Str.Parse.{starts_with_minus}
use Rattle.lp_values.specs.Readings.{integer_in}

-- whether the first byte is a `+`
abbrev pub starts_with_plus : List ℕ → Bool
starts_with_plus text = slice_index text 0 == 43

-- what stands behind a `-`
abbrev pub without_minus : List ℕ → List ℕ
without_minus text = if starts_with_minus text then drop 1 text else text

-- one to ten digits, with an optional `-` before them
abbrev pub number_in : List ℕ → Option ℤ
number_in text = if starts_with_plus text || nat_lt 10 (length (without_minus text)) then None else integer_in text

abbrev pub within : ℕ → ℕ → ℕ → Option ℕ
within low high number = if nat_le low number && nat_le number high then Some number else None

-- a number of a range
abbrev pub count_of : ℕ → ℕ → ℤ → Option ℕ
count_of low high (pos number) = within low high number
count_of low high (negsuc number) = None

-- a number of a range, or -1 for no limit
abbrev pub limit_of : ℕ → ℕ → ℤ → Option (Option ℕ)
limit_of low high (pos number) = if nat_le low number && nat_le number high then Some (Some number) else None
limit_of low high (negsuc number) = if number == 0 then Some None else None
