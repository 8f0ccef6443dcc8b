use Rattle.std.proofs.Common.{◌≡◌, map, take}
use Rattle.query_types.specs.Meanings.{kind_meant}
use Rattle.row_planning.proofs.planning.kinds_of.Given as goal

abbrev pub invariant-loop-item : goal.invariant-loop-item
invariant-loop-item l = l.kinds ≡ map (kind_meant l.table.columns) (take l.item-index l.item-items)
