-- Names of columns.
use Rattle.std.specs.Prelude.{ℕ, Bool, List, map, nat_eq}
use Rattle.std.specs.Char.{to_ascii_lowercase}
use Rattle.std.specs.Cmp.Lexicographic.{pointwise}

-- two names are one, whatever the case of their letters
unfoldable pub is_same_name : List ℕ → List ℕ → Bool
is_same_name a b = pointwise nat_eq (map to_ascii_lowercase a) (map to_ascii_lowercase b)
