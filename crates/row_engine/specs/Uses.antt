-- Which output columns are the last to use a column of the table.
use Rattle.std.specs.Prelude.{Bool, false, not, List, [], ◌∷◌}
use Rattle.query_types.specs.Terms.{Term, column, constant, made, any_has_column}

-- whether an item is a column that no later item has
abbrev pub is_last_use : Term → List Term → Bool
is_last_use (column k) later = not (any_has_column k later)
is_last_use (constant value) later = false
is_last_use (made kind by of) later = false

abbrev pub last_uses : List Term → List Bool
last_uses [] = []
last_uses (item ∷ items) = is_last_use item items ∷ last_uses items
