-- What a plan makes of a record.
use Rattle.std.specs.Prelude.{ℕ, pos, Bool, List, ◌∷◌, Option}
use Rattle.lp_model.specs.Reading.{Columns, Slots}
use Rattle.lp_time.specs.declared.piece.Piece.{Piece}
use Rattle.lp_values.specs.declared.value.Value.{Value}
use Rattle.lp_values.specs.declared.value.Value.TheVariants.{Int, Text}
use Rattle.log_reading.specs.Found.{Found}
use Rattle.delimited_input.specs.Values.{field_value}
use Rattle.query_types.specs.Terms.{Term}
use Rattle.query_types.specs.declared.table.NamedKind.{NamedKind}
use Rattle.query_types.specs.Conditions.{Filter}
use Rattle.row_engine.specs.Rows.{keeps, selected_in}
use Rattle.plan_rows.specs.Picks.{if_kept}
use Rattle.column_kinds.specs.declared.judging.Judged.{Judged}
use Rattle.column_kinds.specs.Fields.{field_in, indexed, is_first, place_for}

-- the value in a column of a record, of the first log or of another, with its own columns and its fields
abbrev pub value_in_column : List Piece → Bool → Option Columns → Slots → ℕ → NamedKind → Value
value_in_column pattern first own slots at column = field_value column.kind pattern (field_in slots (place_for first own at column.name))

-- the values of a record in columns
abbrev pub values_under : List Piece → Option (List ℕ) → Found → List NamedKind → List Value
values_under pattern log found columns = indexed (value_in_column pattern (is_first log found.identity) found.row.columns found.row.slots) 0 columns

-- the row of a record: its log, its number, and its values in the columns
abbrev pub row_of : List Piece → Judged → Found → List Value
row_of pattern told found = Text found.identity ∷ Int (pos found.row.number) ∷ values_under pattern told.log found told.columns

-- the output row of a record, if its condition is Yes
abbrev pub sampled_picks : List Piece → Judged → List Term → Option Filter → Found → Option (List Value)
sampled_picks pattern told items condition found = let row = row_of pattern told found in if_kept (keeps condition row) (selected_in row items)
