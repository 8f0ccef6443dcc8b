use Rattle.std.proofs.Common.{◌≡◌, ◌∙◌, ◌++◌, List, ℕ, OnOk, None, Some, codes, ap, sym, subst}
use Rattle.std.proofs.lemmas.List.{append-nil}
use Rattle.std.proofs.lemmas.Result.{on_ok_weaker}
use Rattle.grammar.specs.Trees.{whens_of as branched}
use Rattle.query_tree.specs.Views.{tree_of, whens_of}
use Rattle.query_tree.specs.declared.expression.Expr.{Expr}
use Rattle.query_types.specs.Names.{branches_spelled, spelled}
use Rattle.query_types.proofs.Lists.{called_tree}
use Rattle.query_types.proofs.Spellings.{case_spelled, more}
use Rattle.column_naming.proofs.spelling.+spelling.Goals as goal

pub spell_expression-returns-in-Call : goal.spell_expression-returns-in-Call
spell_expression-returns-in-Call t c =
    let table = c.args.table.now in
    let aliases = c.args.aliases.now in
    subst (λ (text : List ℕ). OnOk c.spell_call.result (c.spell_call.new.to ≡ c.args.to.now ++ text))
    (sym (ap (λ (e : Expr). spelled table aliases (tree_of e)) c.in-Call.is ∙ ap (spelled table aliases) (called_tree c.in-Call.at c.in-Call.name c.in-Call.arguments)))
    c.spell_call.ensures

pub spell_expression-returns-in-None : goal.spell_expression-returns-in-None
spell_expression-returns-in-None t c =
    let table = c.args.table.now in
    let aliases = c.args.aliases.now in
    let subject = spelled table aliases (tree_of c.in-Case.subject.value) in
    let branches = branches_spelled table aliases (branched (whens_of c.in-Case.branches)) in
    let whole = ap (λ (e : Expr). spelled table aliases (tree_of e)) c.in-Case.is ∙ case_spelled table aliases c.in-Case.at c.in-Case.subject c.in-Case.branches c.in-Case.otherwise _ c.in-None.is in
    let one = c.in_ok-spell_expression-in-Case.ensures ∙ ap (λ (e : Expr). c.spell-in-Case.new.to ++ spelled table aliases (tree_of e)) c.deref.ensures in
    let to = c.args.to.now in
    let first = more to (codes "CASE ") subject c.spell-in-Case.new.to c.spell_expression.new.to c.in_ok-spell-in-Case.ensures one in
    let second = more to (codes "CASE " ++ subject) branches c.spell_expression.new.to c.spell_branches.new.to first c.in_ok-spell_branches-in-Case.ensures in
    on_ok_weaker _ (λ last. more to (codes "CASE " ++ subject ++ branches) (codes " END") c.spell_branches.new.to c.spell-in-None.new.to second last
    ∙ ap (λ text. to ++ (text ++ codes " END")) (sym (append-nil (codes "CASE " ++ subject ++ branches))) ∙ ap (λ text. to ++ text) (sym whole)) c.spell-in-None.ensures

pub spell_expression-returns-in_ok-spell_expression-in-Some : goal.spell_expression-returns-in_ok-spell_expression-in-Some
spell_expression-returns-in_ok-spell_expression-in-Some t c =
    let table = c.args.table.now in
    let aliases = c.args.aliases.now in
    let subject = spelled table aliases (tree_of c.in-Case.subject.value) in
    let branches = branches_spelled table aliases (branched (whens_of c.in-Case.branches)) in
    let value = spelled table aliases (tree_of c.in-Some.value.value) in
    let whole = ap (λ (e : Expr). spelled table aliases (tree_of e)) c.in-Case.is ∙ case_spelled table aliases c.in-Case.at c.in-Case.subject c.in-Case.branches c.in-Case.otherwise _ c.in-Some.is in
    let one = c.in_ok-spell_expression-in-Case.ensures ∙ ap (λ (e : Expr). c.spell-in-Case.new.to ++ spelled table aliases (tree_of e)) c.deref.ensures in
    let two = c.in_ok-spell_expression-in-Some.ensures ∙ ap (λ (e : Expr). c.spell-in-Some.new.to ++ spelled table aliases (tree_of e)) c.deref-in-Some.ensures in
    let to = c.args.to.now in
    let first = more to (codes "CASE ") subject c.spell-in-Case.new.to c.spell_expression.new.to c.in_ok-spell-in-Case.ensures one in
    let second = more to (codes "CASE " ++ subject) branches c.spell_expression.new.to c.spell_branches.new.to first c.in_ok-spell_branches-in-Case.ensures in
    let third = more c.spell_branches.new.to (codes " ELSE ") value c.spell-in-Some.new.to c.spell_expression-in-Some.new.to c.in_ok-spell-in-Some.ensures two in
    let fourth = more to (codes "CASE " ++ subject ++ branches) (codes " ELSE " ++ value) c.spell_branches.new.to c.spell_expression-in-Some.new.to second third in
    on_ok_weaker _ (λ last. more to (codes "CASE " ++ subject ++ branches ++ (codes " ELSE " ++ value)) (codes " END") c.spell_expression-in-Some.new.to c.spell-in-Some-2.new.to fourth last ∙ ap (λ text. to ++ text) (sym whole)) c.spell-in-Some-2.ensures
