use Rattle.std.proofs.Common.{◌≡◌, map, drop}
use Rattle.query_tree.specs.Views.{item_of}
use Rattle.query_types.specs.Planned.{with_aliases}
use Rattle.column_naming.proofs.aliases.add_aliases.Given as goal

abbrev pub invariant-loop-item : goal.invariant-loop-item
invariant-loop-item l = with_aliases l.table l.moment l.initial.aliases (map item_of l.item-items) ≡ with_aliases l.table l.moment l.aliases (map item_of (drop l.item-index l.item-items))
