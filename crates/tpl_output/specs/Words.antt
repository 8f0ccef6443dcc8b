-- Words without regard to case.
use Rattle.std.specs.Prelude.{ℕ, Bool, ◌&&◌, List, length, map, take, nat_eq, nat_le}
use Rattle.std.specs.Char.{to_ascii_lowercase}
use Rattle.std.specs.Cmp.Lexicographic.{pointwise}

abbrev pub is_same_word : List ℕ → List ℕ → Bool
is_same_word a b = pointwise nat_eq (map to_ascii_lowercase a) (map to_ascii_lowercase b)

-- whether a text begins with a word, whatever the case of its letters
abbrev pub begins_as : List ℕ → List ℕ → Bool
begins_as word text = nat_le (length word) (length text) && is_same_word (take (length word) text) word
