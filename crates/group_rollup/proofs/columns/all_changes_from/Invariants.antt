use Rattle.std.proofs.Common.{◌≡◌, ◌++◌, drop}
use Rattle.group_rollup.specs.Columns.{changes_from}
use Rattle.group_rollup.proofs.columns.all_changes_from.Given as goal

abbrev pub invariant-loop-index : goal.invariant-loop-index
invariant-loop-index l = changes_from l.columns l.place l.others l.at ≡ l.changes.items ++ changes_from (drop l.index l.columns) l.place (drop l.index l.others) l.at
