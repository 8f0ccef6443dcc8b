-- The length of a record's row.
use Rattle.std.proofs.Common.{◌≡◌, ◌+◌, List, length, arith}
use Rattle.lp_time.specs.declared.piece.Piece.{Piece}
use Rattle.log_reading.specs.Found.{Found}
use Rattle.column_kinds.proofs.Steps.{indexed_length}
use Rattle.column_kinds.specs.Fields.{is_first}
use Rattle.column_kinds.specs.declared.judging.Judged.{Judged}
use Rattle.sampled_table.specs.Picks.{row_of, value_in_column}

-- a row has the log's name, the number and a value for each column
pub row_length : (pattern : List Piece) (told : Judged) (found : Found) → length (row_of pattern told found) ≡ length told.columns + 2
row_length pattern told found = let size = indexed_length (value_in_column pattern (is_first told.log found.identity) found.row.columns found.row.slots) 0 told.columns in omega arith
