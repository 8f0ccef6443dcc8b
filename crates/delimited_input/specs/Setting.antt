-- The columns behind a line that is neither empty nor broken.
use Rattle.std.specs.Prelude.{List, ℕ, if◌then◌else◌, Option, Some, None}
use Rattle.lp_model.specs.Reading.{Columns}
use Rattle.delimited_input.specs.declared.options.DelimitedOptions.{DelimitedOptions}
use Rattle.delimited_input.specs.Lines.{sets_columns, columns_of}

-- the first line may set columns
abbrev pub first_columns : DelimitedOptions → List (List ℕ) → Option Columns → Option Columns
first_columns options fields old = if sets_columns options fields then Some (columns_of options fields) else old

-- columns that are set stay
abbrev pub filled_columns : DelimitedOptions → List (List ℕ) → Option Columns → Option Columns
filled_columns options fields None = first_columns options fields None
filled_columns options fields (Some names) = Some names
