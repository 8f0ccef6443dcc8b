use Rattle.std.proofs.Common.{◌≡◌, map, drop}
use Rattle.grammar.specs.Trees.{trees_of as listed}
use Rattle.query_tree.specs.Views.{tree_of}
use Rattle.query_types.specs.Conditions.{all_fitting}
use Rattle.query_types.specs.Meanings.{joined}
use Rattle.row_planning.proofs.conditions.all_fitting.Given as goal

abbrev pub invariant-loop-item : goal.invariant-loop-item
invariant-loop-item l = all_fitting l.table l.moment l.aliases l.kind (listed (map tree_of l.item-items))
    ≡ joined l.meanings (all_fitting l.table l.moment l.aliases l.kind (listed (map tree_of (drop l.item-index l.item-items))))
