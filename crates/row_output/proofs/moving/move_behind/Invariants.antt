use Rattle.std.proofs.Common.{◌≡◌, ◌-◌, ◌≤◌, drop, take, length}
use Rattle.row_output.proofs.moving.move_behind.Given as goal

-- The values so far are moved, and those behind them stay.
abbrev pub invariant-loop-index : goal.invariant-loop-index
invariant-loop-index l = record {
  low : l.start ≤ l.index;
  moved : l.into ≡ take (l.index - l.start) (drop l.start l.initial.row);
  behind : drop l.index l.row ≡ drop l.index l.initial.row;
  size : length l.row ≡ length l.initial.row;
}
