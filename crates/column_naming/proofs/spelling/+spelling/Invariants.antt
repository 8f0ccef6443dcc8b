use denote.Shadow.{shadow}
use denote.Text.{Utf8}
use Rattle.std.proofs.Common.{◌≡◌, ◌++◌, map, drop}
use Rattle.grammar.specs.Trees.{trees_of as listed}
use Rattle.grammar.specs.Trees.{whens_of as branched}
use Rattle.query_tree.specs.Views.{tree_of, when_of}
use Rattle.query_types.specs.Names.{all_of, all_spelled, branches_spelled}
use Rattle.column_naming.proofs.spelling.+spelling.Given as goal

abbrev pub invariant-spell_call-loop-argument : goal.invariant-spell_call-loop-argument
invariant-spell_call-loop-argument l = record {
  text : l.initial.to ++ all_spelled l.table l.aliases (all_of l.name) (listed (map tree_of l.argument-items)) ≡ l.to ++ all_spelled l.table l.aliases l.separator (listed (map tree_of (drop l.argument-index l.argument-items)));
  utf8 : shadow (Utf8 l.separator);
}

abbrev pub invariant-spell_branches-loop-branch : goal.invariant-spell_branches-loop-branch
invariant-spell_branches-loop-branch l = l.initial.to ++ branches_spelled l.table l.aliases (branched (map when_of l.branch-items)) ≡ l.to ++ branches_spelled l.table l.aliases (branched (map when_of (drop l.branch-index l.branch-items)))
