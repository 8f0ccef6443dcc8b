use Rattle.std.proofs.Common.{◌∙◌, ℕ, Option, ap, sym, subst, option_map}
use Rattle.grammar.specs.Trees.{Tree}
use Rattle.grammar.specs.Trees.{trees_of as listed}
use Rattle.query_tree.specs.Views.{tree_of, trees_of}
use Rattle.query_types.specs.Meanings.{Answers, pattern_among, pattern_given}
use Rattle.query_types.proofs.Arguments.{tree_given}
use Rattle.query_types.proofs.calls.pattern_among.Goals as goal

pub returns-in-Some : goal.returns-in-Some
returns-in-Some c =
    let place = c.in-Some.place in
    let items = c.args.arguments.now.items.items in
    subst (λ (p : Option ℕ). Answers (λ p. p) c.pattern_given.result (pattern_among p (listed (trees_of c.args.arguments.now)))) (sym c.in-Some.is)
    (subst (λ (e : Option Tree). Answers (λ p. p) c.pattern_given.result (pattern_given e)) (ap (option_map tree_of) c.get.ensures ∙ sym (tree_given place items)) c.pattern_given.ensures)
