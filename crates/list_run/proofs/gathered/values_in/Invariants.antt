use Rattle.std.proofs.Common.{◌≡◌, ◌++◌}
use Rattle.list_run.proofs.gathered.values_in.Given as goal

-- the values so far and the rest are those of the set
abbrev pub invariant-loop-value : goal.invariant-loop-value
invariant-loop-value l = l.list ++ l.value-iterator ≡ l.fn.seen.keys
