use Rattle.std.proofs.Common.{◌≡◌, ◌++◌, drop}
use Rattle.group_rollup.specs.Columns.{changes_by}
use Rattle.group_rollup.proofs.columns.all_changes.Given as goal

abbrev pub invariant-loop-index : goal.invariant-loop-index
invariant-loop-index l = changes_by l.columns l.place l.values ≡ l.changes.items ++ changes_by (drop l.index l.columns) l.place (drop l.index l.values)
