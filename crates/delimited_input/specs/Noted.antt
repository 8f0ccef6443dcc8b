-- Names that were noted in small letters.
use Rattle.std.specs.Prelude.{◌≡◌, ℕ, List, map, nat_eq}
use Rattle.std.specs.Char.{to_ascii_lowercase}
use Rattle.std.specs.Cmp.Lexicographic.{pointwise}
use Rattle.std.specs.List.{list_any}
use Rattle.slot_reading.specs.Names.{is_same_name}

-- a name is found among the noted ones exactly if it is one of these, whatever the case of their letters
unfoldable pub AreNoted : List (List ℕ) → List (List ℕ) → Type 0
AreNoted noted names = (name : List ℕ) → list_any (pointwise nat_eq (map to_ascii_lowercase name)) noted ≡ list_any (is_same_name name) names
