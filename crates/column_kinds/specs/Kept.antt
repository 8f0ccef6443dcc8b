-- Records that are kept.
use Rattle.line_input.specs.Taken.{slots_of}
use Rattle.log_reading.specs.Found.{Found, Met, row_met}
use Rattle.column_kinds.specs.declared.kept.KeptRow.{KeptRow}

-- the record that a kept row is
abbrev pub found_in : KeptRow → Found
found_in kept = record { identity = kept.identity; row = record { number = kept.number; slots = slots_of kept.line kept.fields; columns = kept.columns } }

-- a record that was kept is met again
abbrev pub met_in : KeptRow → Met
met_in kept = row_met (found_in kept)
