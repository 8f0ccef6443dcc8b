use Rattle.std.proofs.Common.{◌≤◌, ◌-◌, length}
use Rattle.plan_rows.proofs.row.make_room.Given as goal

abbrev pub invariant-loop-values : goal.invariant-loop-values
invariant-loop-values l = length l.values ≤ l.columns

abbrev pub decreases-loop-values : goal.decreases-loop-values
decreases-loop-values l = l.columns - length l.values
