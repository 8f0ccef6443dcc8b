use Rattle.std.proofs.Common.{◌≡◌, ◌≤◌, ℕ, List, take, length}
use Rattle.group_rollup.specs.Columns.{AllHave}
use Rattle.group_rollup.specs.Groups.{Record}
use Rattle.group_rollup.specs.Tables.{Keeps, Stands, regrouped}
use Rattle.group_rollup.proofs.rows.Rows.level.Given as goal

-- The level holds the records of the groups so far.
abbrev pub invariant-loop-index : goal.invariant-loop-index
invariant-loop-index l = record {
  have : AllHave (length l.level.keys.keys) l.level.columns.items;
  as_many : length l.level.columns.items ≡ length l.kinds;
  keeps : (width all : ℕ) (records : List Record) → l.count ≤ width → Stands width l.kinds l.self.keys.keys l.self.columns.items all records → Keeps l.count l.kinds l.level.keys.keys l.level.columns.items (regrouped width (take l.index l.self.keys.keys) records);
}
