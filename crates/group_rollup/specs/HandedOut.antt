-- The rows that a table hands out.
use Rattle.std.specs.Prelude.{ℕ, zero, suc, ◌+◌, List, [], ◌∷◌, ◌++◌, replicate}
use Rattle.lp_values.specs.declared.value.Value.{Value}
use Rattle.lp_values.specs.declared.value.Value.TheVariants.{Null}
use Rattle.lp_values.specs.declared.group.AggKind.{AggKind}
use Rattle.lp_values.specs.declared.group.GroupRow.{GroupRow}
use Rattle.group_rollup.specs.declared.column.AggregateColumn.{AggregateColumn}
use Rattle.group_rollup.specs.Columns.{all_finished}

abbrev pub row_of : ℕ → List AggKind → ℕ → List AggregateColumn → List Value → ℕ → GroupRow
row_of dropped kinds all columns key index = record { keys = key ++ replicate dropped Null; dropped = dropped; aggregates = all_finished kinds all columns index }

-- the rows of these keys, whose places begin at an index
abbrev pub rows_of : ℕ → List AggKind → ℕ → List AggregateColumn → List (List Value) → ℕ → List GroupRow
rows_of dropped kinds all columns [] index = []
rows_of dropped kinds all columns (key ∷ keys) index = row_of dropped kinds all columns key index ∷ rows_of dropped kinds all columns keys (index + 1)

-- without any key the row of no records
abbrev pub rows_or_one : ℕ → List AggKind → ℕ → List AggregateColumn → List (List Value) → List GroupRow
rows_or_one dropped kinds all columns [] = row_of dropped kinds all columns [] 0 ∷ []
rows_or_one dropped kinds all columns (key ∷ keys) = rows_of dropped kinds all columns (key ∷ keys) 0

-- the rows of a table of the first n keys
abbrev pub handed : ℕ → ℕ → List AggKind → ℕ → List AggregateColumn → List (List Value) → List GroupRow
handed zero dropped kinds all columns keys = rows_or_one dropped kinds all columns keys
handed (suc n) dropped kinds all columns keys = rows_of dropped kinds all columns keys 0
