use Rattle.std.proofs.Common.{◌≡◌, take}
use Rattle.lp_values.proofs.value.copy_values.Given as goal

-- The values so far were copied.
abbrev pub invariant-loop-value : goal.invariant-loop-value
invariant-loop-value l = l.copy ≡ take l.value-index l.value-items
