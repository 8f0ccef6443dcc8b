-- Lengths and positions, which count characters.
use Rattle.std.specs.Prelude.{ℕ, ◌-◌, ◌==◌, ℤ, pos, negsuc, List, [], ◌∷◌, length, take, drop, reverse, Option, Some, None, option_map, option_and_then, if◌then◌else◌}
use Rattle.std.specs.Str.{chars, encode_utf8_all}
use Rattle.text_functions.specs.Pieces.{pieces}

-- a number that isn't negative
abbrev pub natural : ℤ → Option ℕ
natural (pos n) = Some n
natural (negsuc n) = None

-- the position of a place: the number of characters before it
abbrev pub position_of : List ℕ → ℕ → ℕ
position_of text place = length (chars (take place text))

-- the place of the first occurrence, from the pieces round the occurrences
abbrev pub place_in : List (List ℕ) → Option ℕ
place_in [] = None
place_in (piece ∷ []) = None
place_in (before ∷ next ∷ more) = Some (length before)

-- the first occurrence of a part
abbrev pub first_place : List ℕ → List ℕ → Option ℕ
first_place text part = place_in (pieces part text)

-- the last: the first in the text read backwards
abbrev pub last_place : List ℕ → List ℕ → Option ℕ
last_place text part = option_map (λ behind. length text - behind - length part) (first_place (reverse text) (reverse part))

abbrev pub index_of : List ℕ → List ℕ → Option ℕ
index_of text part = if length part == 0 then None else option_map (position_of text) (first_place text part)

abbrev pub last_index_of : List ℕ → List ℕ → Option ℕ
last_index_of text part = if length part == 0 then None else option_map (position_of text) (last_place text part)

-- the characters from a position on
abbrev pub substring_from : List ℕ → ℤ → Option (List ℕ)
substring_from text from = option_map (λ n. encode_utf8_all (drop n (chars text))) (natural from)

-- and of those at most so many
abbrev pub substring : List ℕ → ℤ → ℤ → Option (List ℕ)
substring text from most =
    option_and_then (λ n. option_map (λ m. encode_utf8_all (take m (drop n (chars text)))) (natural most)) (natural from)
