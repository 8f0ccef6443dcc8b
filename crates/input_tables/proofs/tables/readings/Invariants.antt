use Rattle.std.proofs.Common.{◌≡◌, map, take}
use Rattle.input_tables.specs.Known.{known}
use Rattle.input_tables.specs.Tables.{reading_in}
use Rattle.input_tables.proofs.tables.readings.Given as goal

-- so far each field's reading was added
abbrev pub invariant-loop-field : goal.invariant-loop-field
invariant-loop-field l = l.list ≡ map reading_in (map known (take l.field-index l.fields))
