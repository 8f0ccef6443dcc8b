use Rattle.std.proofs.Common.{◌≡◌, map, drop}
use Rattle.query_tree.specs.Views.{item_of}
use Rattle.sensing.specs.Sensing.{named_of}
use Rattle.group_planning.specs.Clauses.{with_all_named}
use Rattle.group_planning.proofs.selecting.add_all_named.Given as goal

abbrev pub invariant-loop-item : goal.invariant-loop-item
invariant-loop-item l = with_all_named l.table l.moment (map named_of l.initial.aliases.items) (map item_of l.item-items) ≡ with_all_named l.table l.moment (map named_of l.aliases.items) (map item_of (drop l.item-index l.item-items))
