-- The layout of a table from the cells of its rows: columns as wide as their widest cell, one space apart.
use Rattle.std.specs.Prelude.{ℕ, ◌+◌, ◌-◌, Bool, true, false, ◌||◌, List, [], ◌∷◌, ◌++◌, map, flat_map, replicate, count_by, length, max, nat_lt, nat_le, ◌==◌, if◌then◌else◌, slice_get}
use Rattle.std.specs.Option.{option_map_or}
use Rattle.lp_values.specs.Printed.{printed}
use Rattle.lp_values.specs.declared.value.Value.{Value}
use Rattle.lp_values.specs.declared.value.Value.TheVariants.{Null, Int, Real, Text, Stamp}
use Rattle.output_formats.specs.declared.csv.Headers.{Headers}
use Rattle.output_formats.specs.declared.csv.Headers.TheVariants.{Auto, On, Off}

-- a byte that a character of UTF-8 begins with
abbrev pub begins_scalar : ℕ → Bool
begins_scalar byte = nat_lt byte 128 || nat_le 192 byte

-- the number of characters of a text
abbrev pub scalars : List ℕ → ℕ
scalars text = count_by begins_scalar text

-- a character below the space, or the one at 127
abbrev pub is_control : ℕ → Bool
is_control byte = nat_lt byte 32 || byte == 127

abbrev pub shown_byte : ℕ → ℕ
shown_byte byte = if is_control byte then 63 else byte

abbrev pub is_null : Value → Bool
is_null Null = true
is_null (Int number) = false
is_null (Real number) = false
is_null (Text text) = false
is_null (Stamp stamp) = false

-- a value in a table: `-` for NULL, and `?` for each control character
abbrev pub cell_of : Value → List ℕ
cell_of value = if is_null value then 45 ∷ [] else map shown_byte (printed value)

-- a row of a table: the texts of its cells
abbrev pub Cells : Type 0
Cells = List (List ℕ)

abbrev pub cells_of : List Value → Cells
cells_of row = map cell_of row

-- the width of a row's cell in a column; a cell that isn't there has none
abbrev pub width_at : ℕ → Cells → ℕ
width_at column row = option_map_or scalars (slice_get row column) 0

-- a column is as wide as its widest cell
unfoldable pub width_in : List Cells → ℕ → ℕ
width_in [] column = 0
width_in (row ∷ rows) column = max (width_at column row) (width_in rows column)

-- what stands in a line for each of some items, each told its place and whether it is the last one
unfoldable pub pieces_from : {X : Type 0} → (ℕ → Bool → X → List ℕ) → ℕ → List X → List ℕ
pieces_from piece column [] = []
pieces_from piece column (x ∷ xs) = piece column (length xs == 0) x ++ pieces_from piece (column + 1) xs

-- a cell fills its column, and a space parts it from the next; the last one isn't filled
abbrev pub filled : List Cells → ℕ → Bool → List ℕ → List ℕ
filled table column last cell = if last then cell else cell ++ replicate (width_in table column - scalars cell) 32 ++ 32 ∷ []

-- a line of `-` as long as the column is wide, for each
abbrev pub ruled : List Cells → ℕ → Bool → List ℕ → List ℕ
ruled table column last cell = replicate (width_in table column) 45 ++ (if last then [] else 32 ∷ [])

abbrev pub row_line : List Cells → Cells → List ℕ
row_line table row = pieces_from (filled table) 0 row ++ 10 ∷ []

abbrev pub rule_line : List Cells → Cells → List ℕ
rule_line table names = pieces_from (ruled table) 0 names ++ 10 ∷ []

-- whether a block begins with its names
abbrev pub is_titled : Headers → Bool
is_titled Auto = true
is_titled On = true
is_titled Off = false

-- the names and a line of `-`, where they are wanted, and the rows; the names are as wide as they are in any case
unfoldable pub block_text : Headers → Cells → List Cells → List ℕ
block_text headers names rows = (if is_titled headers then row_line (names ∷ rows) names ++ rule_line (names ∷ rows) names else []) ++ flat_map (row_line (names ∷ rows)) rows
