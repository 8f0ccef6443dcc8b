use Rattle.std.proofs.Common.{◌≡◌, map, drop}
use Rattle.grammar.specs.Trees.{trees_of as listed}
use Rattle.query_tree.specs.Views.{tree_of}
use Rattle.query_types.specs.Meanings.{all_meant, joined}
use Rattle.query_types.proofs.ordering.order_meant.Given as goal

abbrev pub invariant-loop-value : goal.invariant-loop-value
invariant-loop-value l = all_meant l.table l.moment l.aliases (listed (map tree_of l.value-items))
    ≡ joined l.meanings (all_meant l.table l.moment l.aliases (listed (map tree_of (drop l.value-index l.value-items))))
