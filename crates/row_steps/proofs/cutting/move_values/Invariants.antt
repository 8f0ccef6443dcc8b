use Rattle.std.proofs.Common.{◌≡◌, ◌+◌, ◌++◌, take, drop, length}
use Rattle.row_steps.proofs.cutting.move_values.Given as goal

-- The values so far are moved, and those behind them stay.
abbrev pub invariant-loop-offset : goal.invariant-loop-offset
invariant-loop-offset l = record {
  moved : l.into ≡ l.initial.into ++ take l.offset (drop l.start l.initial.from);
  behind : drop (l.start + l.offset) l.from ≡ drop (l.start + l.offset) l.initial.from;
  size : length l.from ≡ length l.initial.from;
}
