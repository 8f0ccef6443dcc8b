use Rattle.std.proofs.Common.{◌≡◌, ◌++◌, replicate}
use Rattle.lp_values.specs.declared.value.Value.TheVariants.{Null}
use Rattle.group_rollup.proofs.aggregating.padded.Given as goal

abbrev pub invariant-loop-left : goal.invariant-loop-left
invariant-loop-left l = l.list ++ replicate l.left Null ≡ l.keys ++ replicate l.dropped Null

abbrev pub decreases-loop-left : goal.decreases-loop-left
decreases-loop-left l = l.left
