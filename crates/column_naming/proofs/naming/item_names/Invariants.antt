use Rattle.std.proofs.Common.{◌≡◌, map, take}
use Rattle.query_tree.specs.Views.{item_of}
use Rattle.query_types.specs.Planned.{names_of}
use Rattle.column_naming.proofs.naming.item_names.Given as goal

abbrev pub invariant-loop-item : goal.invariant-loop-item
invariant-loop-item l = l.names ≡ names_of l.table l.aliases (map item_of (take l.item-index l.item-items))
