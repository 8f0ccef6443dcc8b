use Rattle.std.proofs.Common.{◌≡◌, map, drop}
use Rattle.grammar.specs.Trees.{trees_of as listed}
use Rattle.query_tree.specs.Views.{tree_of}
use Rattle.query_types.specs.Meanings.{joined}
use Rattle.senses.specs.Senses.{sense_of}
use Rattle.sensing.specs.Sensing.{named_of}
use Rattle.sensing.specs.Checked.{all_fit_sensed}
use Rattle.sensing.proofs.checking.all_fit_sensed.Given as goal

abbrev pub invariant-loop-item : goal.invariant-loop-item
invariant-loop-item l = all_fit_sensed l.wide l.table l.moment (map named_of l.aliases) l.kind (listed (map tree_of l.item-items))
    ≡ joined (map sense_of l.senses.items) (all_fit_sensed l.wide l.table l.moment (map named_of l.aliases) l.kind (listed (map tree_of (drop l.item-index l.item-items))))
