use Rattle.std.proofs.Common.{drop}
use Rattle.group_rollup.specs.Tables.{AreSmall}
use Rattle.group_rollup.proofs.column.are_small.Given as goal

abbrev pub invariant-loop-value : goal.invariant-loop-value
invariant-loop-value l = AreSmall (drop l.value-index l.values) → AreSmall l.values
