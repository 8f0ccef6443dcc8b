use Rattle.std.proofs.Common.{◌≡◌, take}
use Rattle.iis_fields.proofs.column.copy_columns.Given as goal

-- The columns so far were copied.
abbrev pub invariant-loop-column : goal.invariant-loop-column
invariant-loop-column l = l.copy ≡ take l.column-index l.column-items
