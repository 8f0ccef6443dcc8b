use Rattle.std.proofs.Common.{◌≡◌, ◌-◌, ◌≤◌, drop, take}
use Rattle.row_output.proofs.moving.copy_behind.Given as goal

abbrev pub invariant-loop-index : goal.invariant-loop-index
invariant-loop-index l = record {
  low : l.start ≤ l.index;
  copied : l.copy ≡ take (l.index - l.start) (drop l.start l.names);
}
