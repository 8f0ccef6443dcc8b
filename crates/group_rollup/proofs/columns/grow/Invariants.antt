use Rattle.std.proofs.Common.{◌≡◌, ◌++◌, take, drop, map, length}
use Rattle.group_rollup.specs.Columns.{begun}
use Rattle.group_rollup.proofs.columns.grow.Given as goal

-- The columns so far have a group more.
abbrev pub invariant-loop-index : goal.invariant-loop-index
invariant-loop-index l = record {
  same : length l.columns.items ≡ length l.initial.columns.items;
  grown : l.columns.items ≡ map begun (take l.index l.initial.columns.items) ++ drop l.index l.initial.columns.items;
}
