use Rattle.std.proofs.Common.{◌≤◌}
use Rattle.row_tests.proofs.finish.finish.Given as goal

-- Each row takes one place at most.
abbrev pub invariant-loop-numbers : goal.invariant-loop-numbers
invariant-loop-numbers l = l.orderer.places ≤ l.numbers-index
