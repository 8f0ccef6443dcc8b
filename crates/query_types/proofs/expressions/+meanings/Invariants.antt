use Rattle.std.proofs.Common.{◌≡◌, map, drop}
use Rattle.grammar.specs.Trees.{trees_of as listed}
use Rattle.grammar.specs.Trees.{whens_of as branched}
use Rattle.lp_values.specs.declared.kind.Kind.TheVariants.{Any}
use Rattle.query_tree.specs.Views.{tree_of, when_of}
use Rattle.query_types.specs.Meanings.{joined, all_meant, branches_meant}
use Rattle.query_types.specs.Terms.{term_of}
use Rattle.query_types.proofs.expressions.+meanings.Given as goal

abbrev pub invariant-call_meant-loop-argument : goal.invariant-call_meant-loop-argument
invariant-call_meant-loop-argument l = all_meant l.table l.moment l.aliases (listed (map tree_of l.argument-items))
    ≡ joined (map term_of l.forms.items) (all_meant l.table l.moment l.aliases (listed (map tree_of (drop l.argument-index l.argument-items))))

abbrev pub invariant-branches_meant-loop-branch : goal.invariant-branches_meant-loop-branch
invariant-branches_meant-loop-branch l = branches_meant l.table l.moment l.aliases l.subject Any (branched (map when_of l.branch-items))
    ≡ joined (map term_of l.parts.items) (branches_meant l.table l.moment l.aliases l.subject l.kind (branched (map when_of (drop l.branch-index l.branch-items))))
