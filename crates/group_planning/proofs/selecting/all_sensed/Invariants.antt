use Rattle.std.proofs.Common.{◌≡◌, map, drop}
use Rattle.grammar.specs.Trees.{trees_of as listed}
use Rattle.query_tree.specs.Views.{tree_of}
use Rattle.query_types.specs.Meanings.{joined}
use Rattle.senses.specs.Senses.{sense_of}
use Rattle.sensing.specs.Sensing.{all_sensed, named_of}
use Rattle.group_planning.proofs.selecting.all_sensed.Given as goal

abbrev pub invariant-loop-value : goal.invariant-loop-value
invariant-loop-value l = all_sensed l.wide l.table l.moment (map named_of l.aliases) (listed (map tree_of l.value-items))
    ≡ joined (map sense_of l.senses.items) (all_sensed l.wide l.table l.moment (map named_of l.aliases) (listed (map tree_of (drop l.value-index l.value-items))))
