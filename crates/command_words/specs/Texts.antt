-- Texts without regard to ASCII case.
use Rattle.std.specs.Prelude.{ℕ, ◌-◌, Bool, List, length, map, take, drop, bytes_eq}
use Rattle.std.specs.Char.{to_ascii_lowercase}

-- the same text but for case
abbrev pub same_text : List ℕ → List ℕ → Bool
same_text a b = bytes_eq (map to_ascii_lowercase a) (map to_ascii_lowercase b)

-- the text begins with another, or ends with it, but for case
abbrev pub begins_as : List ℕ → List ℕ → Bool
begins_as text front = same_text (take (length front) text) front

abbrev pub ends_as : List ℕ → List ℕ → Bool
ends_as text end = same_text (drop (length text - length end) text) end
