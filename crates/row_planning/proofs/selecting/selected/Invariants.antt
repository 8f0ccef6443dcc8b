use Rattle.std.proofs.Common.{◌≡◌, ◌≤◌, length, map, take, drop}
use Rattle.query_tree.specs.Views.{item_of}
use Rattle.query_types.specs.Planned.{selected, with_aliases}
use Rattle.query_types.specs.Meanings.{joined}
use Rattle.row_planning.proofs.selecting.selected.Given as goal

abbrev pub invariant-loop-item : goal.invariant-loop-item
invariant-loop-item l = record {
  before : l.before ≤ length l.all;
  all : l.all ≡ with_aliases l.table l.moment (take l.before l.all) (map item_of (drop l.item-index l.item-items));
  found : selected l.table l.moment (take l.initial.before l.all) l.all (map item_of l.item-items)
      ≡ joined l.meanings (selected l.table l.moment (take l.before l.all) l.all (map item_of (drop l.item-index l.item-items)));
}
