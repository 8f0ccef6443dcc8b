use Rattle.std.proofs.Common.{◌≡◌, map, drop}
use Rattle.grammar.specs.Trees.{trees_of as listed}
use Rattle.grammar.specs.Trees.{whens_of as branched}
use Rattle.query_tree.specs.Views.{tree_of, when_of}
use Rattle.judging.specs.Asked.{branches_have, have_aggregate}
use Rattle.judging.proofs.asking.+aggregates.Given as goal

abbrev pub invariant-have_aggregate-loop-item : goal.invariant-have_aggregate-loop-item
invariant-have_aggregate-loop-item l = have_aggregate (listed (map tree_of l.item-items)) ≡ have_aggregate (listed (map tree_of (drop l.item-index l.item-items)))

abbrev pub invariant-branches_have-loop-branch : goal.invariant-branches_have-loop-branch
invariant-branches_have-loop-branch l = branches_have (branched (map when_of l.branch-items)) ≡ branches_have (branched (map when_of (drop l.branch-index l.branch-items)))
