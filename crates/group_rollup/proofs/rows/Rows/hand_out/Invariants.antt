use Rattle.std.proofs.Common.{◌≡◌, ◌++◌, drop}
use Rattle.group_rollup.specs.HandedOut.{rows_of}
use Rattle.group_rollup.proofs.rows.Rows.hand_out.Given as goal

abbrev pub invariant-loop-index : goal.invariant-loop-index
invariant-loop-index l = l.initial.rows ++ rows_of l.dropped l.kinds l.all l.self.columns.items l.self.keys.keys 0 ≡ l.rows ++ rows_of l.dropped l.kinds l.all l.self.columns.items (drop l.index l.self.keys.keys) l.index
