use Rattle.std.proofs.Common.{◌≡◌, ◌≤◌, length, map, take, drop}
use Rattle.query_tree.specs.Views.{item_of}
use Rattle.query_types.specs.Meanings.{joined}
use Rattle.senses.specs.Senses.{sense_of}
use Rattle.sensing.specs.Sensing.{named_of}
use Rattle.group_planning.specs.Clauses.{items_sensed, with_all_named}
use Rattle.group_planning.proofs.selecting.items_sensed.Given as goal

abbrev pub invariant-loop-item : goal.invariant-loop-item
invariant-loop-item l = record {
  before : l.before ≤ length l.all;
  all : map named_of l.all ≡ with_all_named l.table l.moment (take l.before (map named_of l.all)) (map item_of (drop l.item-index l.item-items));
  found : items_sensed l.wide l.table l.moment (take l.initial.before (map named_of l.all)) (map named_of l.all) (map item_of l.item-items)
      ≡ joined (map sense_of l.senses.items) (items_sensed l.wide l.table l.moment (take l.before (map named_of l.all)) (map named_of l.all) (map item_of (drop l.item-index l.item-items)));
}
