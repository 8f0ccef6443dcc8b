use Rattle.std.proofs.Common.{◌≡◌}
use Rattle.lp_outside.proofs.matching.in_order.Given as goal

-- the names so far
abbrev pub invariant-loop-name : goal.invariant-loop-name
invariant-loop-name l = l.list ≡ l.yielded
