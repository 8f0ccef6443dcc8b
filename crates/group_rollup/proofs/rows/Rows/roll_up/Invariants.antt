use Rattle.std.proofs.Common.{◌≡◌, ◌≤◌, ◌++◌, List}
use Rattle.group_rollup.specs.Groups.{Record, shorter}
use Rattle.group_rollup.specs.Tables.{Stands}
use Rattle.group_rollup.proofs.rows.Rows.roll_up.Given as goal

-- The rows so far, and behind them the groups of lists that are shorter still.
abbrev pub invariant-loop-left : goal.invariant-loop-left
invariant-loop-left l = record {
  within : l.left ≤ l.width;
  rows : (records : List Record) → Stands l.width l.kinds l.self.keys.keys l.self.columns.items l.all records → l.initial.rows ++ shorter l.width l.kinds records l.width ≡ l.rows ++ shorter l.width l.kinds records l.left;
}

abbrev pub decreases-loop-left : goal.decreases-loop-left
decreases-loop-left l = l.left
