use Rattle.std.proofs.Common.{◌∙◌, ◌+◌, ◌||◌, Bool, true, false, List, Option, option_map, Box, map, drop, ap, sym, refl}
use Rattle.std.specs.declared.alloc.Global.{Global}
use Rattle.grammar.specs.Trees.{otherwise_of}
use Rattle.grammar.specs.Trees.{trees_of as listed}
use Rattle.grammar.specs.Trees.{whens_of as branched}
use Rattle.query_tree.specs.Views.{tree_of, when_of}
use Rattle.query_tree.specs.declared.expression.Expr.{Expr}
use Rattle.query_tree.specs.declared.expression.When.{When}
use Rattle.judging.specs.Asked.{branches_have, else_has, has_aggregate, have_aggregate}
use Rattle.judging.proofs.Having.{branch_step, case_has, counting_has, have_step, other_has}
use Rattle.judging.proofs.asking.+aggregates.Goals as goal

pub have_aggregate-returns-then-has_aggregate : goal.have_aggregate-returns-then-has_aggregate
have_aggregate-returns-then-has_aggregate t c =
    let items = c.deref-item-items.result.now in
    let i = c.loop-item.item-index in
    let rest = have_aggregate (listed (map tree_of (drop (i + 1) items))) in
    sym (ap (λ (l : List Expr). have_aggregate (listed (map tree_of l))) (sym c.deref-item-items.ensures.value) ∙ c.loop-item.invariant
    ∙ have_step items i c.item-item.result c.loop-item-test.true c.item-item.is
    ∙ ap (λ (b : Bool). b || rest) (sym c.has_aggregate.ensures ∙ c.if-has_aggregate.true))

pub branches_have-returns-then-has_aggregate : goal.branches_have-returns-then-has_aggregate
branches_have-returns-then-has_aggregate t c =
    let items = c.deref-branch-items.result.now in
    let i = c.loop-branch.branch-index in
    let w = c.branch-item.result in
    let rest = branches_have (branched (map when_of (drop (i + 1) items))) in
    sym (ap (λ (l : List When). branches_have (branched (map when_of l))) (sym c.deref-branch-items.ensures.value) ∙ c.loop-branch.invariant
    ∙ branch_step items i w c.loop-branch-test.true c.branch-item.is
    ∙ ap (λ (b : Bool). b || has_aggregate (tree_of w.value) || rest) (sym c.has_aggregate.ensures ∙ c.if-has_aggregate.true))

pub has_aggregate-returns-then-is_counting_call : goal.has_aggregate-returns-then-is_counting_call
has_aggregate-returns-then-is_counting_call t c =
    sym (ap (λ (e : Expr). has_aggregate (tree_of e)) c.in-Call.is ∙ counting_has c.in-Call.at c.in-Call.name c.in-Call.arguments (sym c.is_counting_call.ensures ∙ c.if-is_counting_call.true))

pub has_aggregate-returns-else-is_counting_call : goal.has_aggregate-returns-else-is_counting_call
has_aggregate-returns-else-is_counting_call t c =
    c.have_aggregate.ensures ∙ sym (ap (λ (e : Expr). has_aggregate (tree_of e)) c.in-Call.is ∙ other_has c.in-Call.at c.in-Call.name c.in-Call.arguments (sym c.is_counting_call.ensures ∙ c.if-is_counting_call.false))

pub has_aggregate-returns-then-has_aggregate : goal.has_aggregate-returns-then-has_aggregate
has_aggregate-returns-then-has_aggregate t c =
    sym (ap (λ (e : Expr). has_aggregate (tree_of e)) c.in-Case.is
    ∙ case_has c.in-Case.at c.in-Case.subject c.in-Case.branches c.in-Case.otherwise true _
    (ap (λ (e : Expr). has_aggregate (tree_of e)) (sym c.deref.ensures) ∙ sym c.has_aggregate.ensures ∙ c.if-has_aggregate.true)
    refl)

pub has_aggregate-returns-then-branches_have : goal.has_aggregate-returns-then-branches_have
has_aggregate-returns-then-branches_have t c =
    sym (ap (λ (e : Expr). has_aggregate (tree_of e)) c.in-Case.is
    ∙ case_has c.in-Case.at c.in-Case.subject c.in-Case.branches c.in-Case.otherwise false true
    (ap (λ (e : Expr). has_aggregate (tree_of e)) (sym c.deref.ensures) ∙ sym c.has_aggregate.ensures ∙ c.if-has_aggregate.false)
    (sym c.branches_have.ensures ∙ c.if-branches_have.true))

pub has_aggregate-returns-in-None : goal.has_aggregate-returns-in-None
has_aggregate-returns-in-None t c =
    sym (ap (λ (e : Expr). has_aggregate (tree_of e)) c.in-Case.is
    ∙ case_has c.in-Case.at c.in-Case.subject c.in-Case.branches c.in-Case.otherwise false false
    (ap (λ (e : Expr). has_aggregate (tree_of e)) (sym c.deref.ensures) ∙ sym c.has_aggregate.ensures ∙ c.if-has_aggregate.false)
    (sym c.branches_have.ensures ∙ c.if-branches_have.false)
    ∙ ap (λ (o : Option (Box Expr Global)). else_has (otherwise_of (option_map (λ b. tree_of b.value) o))) c.in-None.is)

pub has_aggregate-returns-in-Some : goal.has_aggregate-returns-in-Some
has_aggregate-returns-in-Some t c =
    c.has_aggregate-in-Some.ensures ∙ ap (λ (e : Expr). has_aggregate (tree_of e)) c.deref-in-Some.ensures
    ∙ sym (ap (λ (e : Expr). has_aggregate (tree_of e)) c.in-Case.is
    ∙ case_has c.in-Case.at c.in-Case.subject c.in-Case.branches c.in-Case.otherwise false false
    (ap (λ (e : Expr). has_aggregate (tree_of e)) (sym c.deref.ensures) ∙ sym c.has_aggregate.ensures ∙ c.if-has_aggregate.false)
    (sym c.branches_have.ensures ∙ c.if-branches_have.false)
    ∙ ap (λ (o : Option (Box Expr Global)). else_has (otherwise_of (option_map (λ b. tree_of b.value) o))) c.in-Some.is)
