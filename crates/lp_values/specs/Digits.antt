-- Decimal digits in a fixed number of places.
use Rattle.std.specs.Prelude.{ℕ, ◌+◌, ◌/◌, ◌%◌, List, [], ◌∷◌, ◌++◌}

-- the last two digits of a number
abbrev pub two_digits : ℕ → List ℕ
two_digits number = (48 + number / 10 % 10) ∷ (48 + number % 10) ∷ []

-- the last four
abbrev pub four_digits : ℕ → List ℕ
four_digits number = two_digits (number / 100 % 100) ++ two_digits (number % 100)

-- the last six
abbrev pub six_digits : ℕ → List ℕ
six_digits number = two_digits (number / 10_000 % 100) ++ four_digits (number % 10_000)
