-- The bytes of words, numbers and names.
use Rattle.std.specs.Prelude.{ℕ, Bool, not, ◌&&◌, ◌||◌, ◌==◌, nat_le}

-- space, tab, LF, CR
abbrev pub is_blank : ℕ → Bool
is_blank b = b == 32 || b == 9 || b == 10 || b == 13

-- an ASCII letter or `_`
abbrev pub is_letter : ℕ → Bool
is_letter b = (nat_le 65 b && nat_le b 90) || (nat_le 97 b && nat_le b 122) || b == 95

abbrev pub is_digit : ℕ → Bool
is_digit b = nat_le 48 b && nat_le b 57

-- a letter, a digit, `_` or `-`
abbrev pub is_word_byte : ℕ → Bool
is_word_byte b = is_letter b || is_digit b || b == 45

-- `,`, `'`, `(`, `)`, `;`
abbrev pub ends_name : ℕ → Bool
ends_name b = b == 44 || b == 39 || b == 40 || b == 41 || b == 59

-- a byte of a name that is no string
abbrev pub is_name_byte : ℕ → Bool
is_name_byte b = not (is_blank b || ends_name b)
