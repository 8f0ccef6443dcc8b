-- The numbers of a query.
use Rattle.std.specs.Prelude.{ℕ, ◌+◌, ◌-◌, ◌*◌, ◌^◌, Bool, false, ◌==◌, nat_lt, nat_le, if◌then◌else◌, List, [], ◌∷◌, ◌++◌, length, take, drop, take_while, codes, ℤ, pos, neg_ℤ}
use Rattle.std.specs.List.{prefix_len}
use Rattle.query_lexer.specs.Bytes.{is_digit}

-- the number that digits (48 is `0`) write when they follow those of n
abbrev pub number_after : ℕ → List ℕ → ℕ
number_after n [] = n
number_after n (b ∷ bs) = number_after (n * 10 + (b - 48)) bs

-- the number that digits write
abbrev pub number_of : List ℕ → ℕ
number_of digits = number_after 0 digits

-- the first six decimals, and zeros for those that are missing
abbrev pub six_of : List ℕ → List ℕ
six_of decimals = take 6 decimals ++ drop (length decimals) (codes "000000")

-- whether a `-` (45) stands first
abbrev pub is_signed : List ℕ → Bool
is_signed [] = false
is_signed (b ∷ bs) = b == 45

-- how many bytes the sign has
abbrev pub sign_length : List ℕ → ℕ
sign_length all = if is_signed all then 1 else 0

-- how many digits are behind the sign
abbrev pub whole_length : List ℕ → ℕ
whole_length all = prefix_len is_digit (drop (sign_length all) all)

-- the digits behind the sign
abbrev pub whole_of : List ℕ → List ℕ
whole_of all = take (whole_length all) (drop (sign_length all) all)

-- the digits behind a point (46)
abbrev pub behind_point : List ℕ → List ℕ
behind_point [] = []
behind_point (b ∷ bs) = if b == 46 then take_while is_digit bs else []

-- the digits behind the point that directly follows the whole part
abbrev pub decimals_of : List ℕ → List ℕ
decimals_of all = behind_point (drop (sign_length all + whole_length all) all)

-- a magnitude with a sign
abbrev pub signed_by : Bool → ℕ → ℤ
signed_by signed magnitude = if signed then neg_ℤ (pos magnitude) else pos magnitude

-- whether a magnitude with a sign is outside the whole numbers of 64 bits
abbrev pub is_outside : Bool → ℕ → Bool
is_outside signed magnitude = if signed then nat_lt (2 ^ 63) magnitude else nat_le (2 ^ 63) magnitude
