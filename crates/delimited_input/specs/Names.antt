-- The names of columns.
use Rattle.std.specs.Prelude.{ℕ, ◌+◌, ◌==◌, Bool, ◌||◌, List, ◌++◌, length, map, take, codes, decimal, if◌then◌else◌}
use Rattle.std.specs.List.{enumerate_from, list_any, range_with_len}
use Rattle.std.specs.Str.Lossy.{utf8_lossy}
use Rattle.lp_model.specs.Reading.{Columns}
use Rattle.slot_reading.specs.Names.{is_same_name}

-- the name of a column that has none of its own, by its position from 1
abbrev pub made_name : ℕ → List ℕ
made_name position = codes "Field" ++ decimal position

unfoldable pub made_names : ℕ → Columns
made_names many = map made_name (range_with_len 1 many)

-- an empty name, and one that equals an earlier one, whatever the case of their letters, are made anew
abbrev pub is_made : List (List ℕ) → List ℕ → Bool
is_made earlier name = length name == 0 || list_any (is_same_name name) earlier

-- the name that a header's field gives; names are compared before what is no UTF-8 is repaired
abbrev pub header_name : List (List ℕ) → ℕ → List ℕ → List ℕ
header_name earlier position name = if is_made earlier name then made_name position else utf8_lossy name

unfoldable pub header_names : List (List ℕ) → Columns
header_names fields = map (λ field. header_name (take field.0 fields) (field.0 + 1) field.1) (enumerate_from 0 fields)
