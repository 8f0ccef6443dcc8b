use Rattle.std.proofs.Common.{◌≡◌, ◌++◌, length}
use Rattle.row_engine.specs.Uses.{last_uses}
use Rattle.row_engine.proofs.selecting.last_uses.Given as goal

-- The uses so far, and those of what is left.
abbrev pub invariant-loop-item : goal.invariant-loop-item
invariant-loop-item l = last_uses l.plan.items ≡ l.uses ++ last_uses l.rest

abbrev pub decreases-loop-item : goal.decreases-loop-item
decreases-loop-item l = length l.rest
