use Rattle.std.proofs.Common.{◌≡◌, ◌++◌, drop}
use Rattle.group_rollup.specs.Columns.{all_finished}
use Rattle.group_rollup.proofs.aggregating.aggregates.Given as goal

abbrev pub invariant-loop-place : goal.invariant-loop-place
invariant-loop-place l = all_finished l.kinds l.all l.columns l.index ≡ l.values ++ all_finished (drop l.place l.kinds) l.all (drop l.place l.columns) l.index
