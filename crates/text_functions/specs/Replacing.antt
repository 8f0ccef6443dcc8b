-- Texts that are made of others.
use Rattle.std.specs.Prelude.{ℕ, ◌-◌, ◌==◌, nat_le, List, length, Option, Some, None, if◌then◌else◌, encode_utf8}
use Rattle.std.specs.List.{flat_map, list_any}
use Rattle.std.specs.Str.{chars}
use Rattle.text_functions.specs.Pieces.{pieces, joined}

-- a text, if it has at most so many bytes
abbrev pub within : ℕ → List ℕ → Option (List ℕ)
within most text = if nat_le (length text) most then Some text else None

-- how often a part occurs
abbrev pub count_of : List ℕ → List ℕ → ℕ
count_of text part = if length part == 0 then 0 else length (pieces part text) - 1

-- each occurrence of a part replaced
abbrev pub replaced : List ℕ → List ℕ → List ℕ → List ℕ
replaced text part by = if length part == 0 then text else joined by (pieces part text)

-- a character, or what stands in place of it where it is one of some
abbrev pub replaced_character : List ℕ → List ℕ → ℕ → List ℕ
replaced_character some by c = if list_any (λ d. d == c) (chars some) then by else encode_utf8 c

-- each character that is one of some replaced
abbrev pub replaced_characters : List ℕ → List ℕ → List ℕ → List ℕ
replaced_characters text some by = flat_map (replaced_character some by) (chars text)
