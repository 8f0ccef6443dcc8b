-- The name that a row's values make of a pattern.
use Rattle.std.specs.Prelude.{ℕ, Bool, ◌||◌, List, [], ◌∷◌, ◌++◌, map, codes, count_by, nat_lt, ◌==◌, if◌then◌else◌}
use Rattle.std.specs.List.{list_any}
use Rattle.lp_model.specs.Names.{is_part}
use Rattle.lp_values.specs.Printed.{printed}
use Rattle.lp_values.specs.declared.value.Value.{Value}

-- a byte that doesn't go from a value into a name
abbrev pub is_unfit : ℕ → Bool
is_unfit byte = nat_lt byte 32 || byte == 127 || list_any (λ other. byte == other) (codes "/\\:*?\"<>|")

abbrev pub fitted : ℕ → ℕ
fitted byte = if is_unfit byte then 95 else byte

-- what a printed value is in a name: unfit bytes are `_`, and so is a text that is no part of a name
abbrev pub part_from : List ℕ → List ℕ
part_from text = if is_part text then map fitted text else 95 ∷ []

-- a pattern with the part of a value for each star, in order
abbrev pub filled : List ℕ → List Value → List ℕ
filled [] values = []
filled (byte ∷ more) [] = byte ∷ filled more []
filled (byte ∷ more) (value ∷ values) = if byte == 42 then part_from (printed value) ++ filled more values else byte ∷ filled more (value ∷ values)

-- how many values a pattern takes
abbrev pub stars : List ℕ → ℕ
stars pattern = count_by (λ byte. byte == 42) pattern
