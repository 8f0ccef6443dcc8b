use Rattle.std.proofs.Common.{◌≡◌, ◌++◌, take}
use Rattle.column_kinds.proofs.judging.add_columns.Given as goal

abbrev pub invariant-loop-column : goal.invariant-loop-column
invariant-loop-column l = l.columns ≡ l.initial.columns ++ take l.column-index l.column-items
