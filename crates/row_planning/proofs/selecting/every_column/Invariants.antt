use Rattle.std.proofs.Common.{◌≡◌, ◌++◌, drop}
use Rattle.query_types.specs.Planned.{columns_from}
use Rattle.row_planning.proofs.selecting.every_column.Given as goal

abbrev pub invariant-loop-index : goal.invariant-loop-index
invariant-loop-index l = columns_from 0 l.table.columns ≡ l.meanings ++ columns_from l.index (drop l.index l.table.columns)
