use Rattle.std.proofs.Common.{◌≡◌, map, drop}
use Rattle.grammar.specs.Trees.{trees_of as listed}
use Rattle.grammar.specs.Trees.{whens_of as branched}
use Rattle.lp_values.specs.declared.kind.Kind.TheVariants.{Any}
use Rattle.query_tree.specs.Views.{tree_of, when_of}
use Rattle.query_types.specs.Meanings.{joined}
use Rattle.senses.specs.Senses.{sense_of}
use Rattle.sensing.specs.Sensing.{all_sensed, branches_sensed, named_of}
use Rattle.sensing.proofs.sensing.+sensed.Given as goal

abbrev pub invariant-call_sensed-loop-argument : goal.invariant-call_sensed-loop-argument
invariant-call_sensed-loop-argument l = all_sensed l.within l.table l.moment (map named_of l.aliases) (listed (map tree_of l.argument-items))
    ≡ joined (map sense_of l.senses.items) (all_sensed l.within l.table l.moment (map named_of l.aliases) (listed (map tree_of (drop l.argument-index l.argument-items))))

abbrev pub invariant-branches_sensed-loop-branch : goal.invariant-branches_sensed-loop-branch
invariant-branches_sensed-loop-branch l = branches_sensed l.wide l.table l.moment (map named_of l.aliases) l.subject Any (branched (map when_of l.branch-items))
    ≡ joined (map sense_of l.parts.items) (branches_sensed l.wide l.table l.moment (map named_of l.aliases) l.subject l.kind (branched (map when_of (drop l.branch-index l.branch-items))))
