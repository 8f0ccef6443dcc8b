use Rattle.std.proofs.Common.{◌≡◌, ◌++◌, take, drop, length}
use Rattle.group_rollup.specs.Columns.{all_applied}
use Rattle.group_rollup.proofs.columns.apply_all.Given as goal

abbrev pub invariant-loop-index : goal.invariant-loop-index
invariant-loop-index l = record {
  as_many : length l.columns.items ≡ length l.initial.columns.items;
  same : length l.changes.items ≡ length l.columns.items;
  applied : all_applied l.initial.columns.items l.place l.initial.changes.items ≡ take l.index l.columns.items ++ all_applied (drop l.index l.columns.items) l.place (drop l.index l.changes.items);
}
