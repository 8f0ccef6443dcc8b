use Rattle.std.proofs.Common.{◌≡◌, ◌++◌, map, take}
use Rattle.input_tables.specs.Known.{known}
use Rattle.input_tables.specs.Tables.{column_of}
use Rattle.input_tables.proofs.tables.add_columns.Given as goal

-- the columns of the fields so far were added
abbrev pub invariant-loop-field : goal.invariant-loop-field
invariant-loop-field l = l.columns ≡ l.initial.columns ++ map column_of (map known (take l.field-index l.fields))
