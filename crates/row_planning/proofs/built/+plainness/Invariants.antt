use Rattle.std.proofs.Common.{◌≡◌, map, drop}
use Rattle.grammar.specs.Trees.{trees_of as listed}
use Rattle.grammar.specs.Trees.{whens_of as branched}
use Rattle.query_tree.specs.Views.{tree_of, when_of}
use Rattle.query_types.specs.Built.{are_plain, are_plain_branches}
use Rattle.row_planning.proofs.built.+plainness.Given as goal

abbrev pub invariant-are_plain-loop-item : goal.invariant-are_plain-loop-item
invariant-are_plain-loop-item l = are_plain (listed (map tree_of l.item-items)) ≡ are_plain (listed (map tree_of (drop l.item-index l.item-items)))

abbrev pub invariant-are_plain_branches-loop-branch : goal.invariant-are_plain_branches-loop-branch
invariant-are_plain_branches-loop-branch l = are_plain_branches (branched (map when_of l.branch-items)) ≡ are_plain_branches (branched (map when_of (drop l.branch-index l.branch-items)))
