-- Rows split by the names of their outputs.
use Rattle.std.specs.Prelude.{ℕ, List, [], ◌∷◌, map, filter, take, drop, ◌==◌, bytes_eq, if◌then◌else◌}
use Rattle.lp_values.specs.declared.value.Value.{Value}
use Rattle.log_listing.specs.Firsts.{firsts}
use Rattle.multiplex.specs.Naming.{filled, stars}

-- the name of a row's output: its first values stand for the stars
abbrev pub row_name : List ℕ → List Value → List ℕ
row_name pattern row = filled pattern (take (stars pattern) row)

-- An output: its name, and its rows without the values of the name.
pub record OutputRows : Type 0 where
  pub name : List ℕ
  pub rows : List (List Value)

-- the rows of one output
abbrev pub rows_named : List ℕ → List (List Value) → List ℕ → List (List Value)
rows_named pattern rows name = map (drop (stars pattern)) (filter (λ row. bytes_eq name (row_name pattern row)) rows)

-- the names of the outputs; a pattern without stars is one, also without rows
abbrev pub output_names : List ℕ → List (List Value) → List (List ℕ)
output_names pattern rows = if stars pattern == 0 then pattern ∷ [] else firsts (map (row_name pattern) rows)

-- the outputs of rows, in the order of first occurrence of their names
abbrev pub split : List ℕ → List (List Value) → List OutputRows
split pattern rows = map (λ name. record { name = name; rows = rows_named pattern rows name }) (output_names pattern rows)
