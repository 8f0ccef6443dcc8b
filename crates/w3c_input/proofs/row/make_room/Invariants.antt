use Rattle.std.proofs.Common.{◌≤◌, ◌-◌, length}
use Rattle.w3c_input.proofs.row.make_room.Given as goal

abbrev pub invariant-loop-row : goal.invariant-loop-row
invariant-loop-row l = length l.row ≤ 22

abbrev pub decreases-loop-row : goal.decreases-loop-row
decreases-loop-row l = 22 - length l.row
