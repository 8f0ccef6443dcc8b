use Rattle.std.proofs.Common.{◌≡◌, ◌++◌, take, drop, map, length}
use Rattle.group_rollup.specs.Columns.{cut}
use Rattle.group_rollup.proofs.columns.cut_all.Given as goal

-- The columns so far are cut.
abbrev pub invariant-loop-index : goal.invariant-loop-index
invariant-loop-index l = record {
  same : length l.columns.items ≡ length l.initial.columns.items;
  cut : map (cut l.count) l.initial.columns.items ≡ take l.index l.columns.items ++ map (cut l.count) (drop l.index l.columns.items);
}
