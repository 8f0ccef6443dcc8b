use Rattle.std.proofs.Common.{◌≡◌, take, map}
use Rattle.group_rollup.specs.Columns.{no_column}
use Rattle.group_rollup.proofs.columns.new_columns.Given as goal

abbrev pub invariant-loop-kind : goal.invariant-loop-kind
invariant-loop-kind l = l.columns.items ≡ map no_column (take l.kind-index l.kinds)
