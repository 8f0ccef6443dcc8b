use Rattle.std.proofs.Common.{◌∙◌, ◌+◌, ◌&&◌, Bool, true, false, List, Option, option_map, Box, map, drop, ap, sym}
use Rattle.std.specs.declared.alloc.Global.{Global}
use Rattle.grammar.specs.Trees.{otherwise_of}
use Rattle.grammar.specs.Trees.{trees_of as listed}
use Rattle.grammar.specs.Trees.{whens_of as branched}
use Rattle.query_tree.specs.Views.{tree_of, when_of}
use Rattle.query_tree.specs.declared.expression.Expr.{Expr}
use Rattle.query_tree.specs.declared.expression.When.{When}
use Rattle.query_types.specs.Built.{is_plain, is_plain_else, are_plain, are_plain_branches}
use Rattle.query_types.proofs.Lists.{plain_step, plain_branch_step, plain_case, grouping_call, other_call}
use Rattle.row_planning.proofs.built.+plainness.Goals as goal

pub are_plain-returns-then-not-is_plain : goal.are_plain-returns-then-not-is_plain
are_plain-returns-then-not-is_plain t c =
    let items = c.deref-item-items.result.now in
    let i = c.loop-item.item-index in
    let rest = are_plain (listed (map tree_of (drop (i + 1) items))) in
    sym (ap (λ (l : List Expr). are_plain (listed (map tree_of l))) (sym c.deref-item-items.ensures.value) ∙ c.loop-item.invariant
    ∙ plain_step items i c.item-item.result c.loop-item-test.true c.item-item.is
    ∙ ap (λ (b : Bool). b && rest) (sym c.is_plain.ensures ∙ c.if-not-is_plain.true))

pub are_plain_branches-returns-then-not-is_plain : goal.are_plain_branches-returns-then-not-is_plain
are_plain_branches-returns-then-not-is_plain t c =
    let items = c.deref-branch-items.result.now in
    let i = c.loop-branch.branch-index in
    let w = c.branch-item.result in
    let rest = are_plain_branches (branched (map when_of (drop (i + 1) items))) in
    sym (ap (λ (l : List When). are_plain_branches (branched (map when_of l))) (sym c.deref-branch-items.ensures.value) ∙ c.loop-branch.invariant
    ∙ plain_branch_step items i w c.loop-branch-test.true c.branch-item.is
    ∙ ap (λ (b : Bool). b && is_plain (tree_of w.value) && rest) (sym c.is_plain.ensures ∙ c.if-not-is_plain.true))

pub is_plain-returns-then-is_grouping : goal.is_plain-returns-then-is_grouping
is_plain-returns-then-is_grouping t c =
    sym (ap (λ (e : Expr). is_plain (tree_of e)) c.in-Call.is ∙ grouping_call c.in-Call.at c.in-Call.name c.in-Call.arguments (sym c.is_grouping.ensures ∙ c.if-is_grouping.true))

pub is_plain-returns-else-is_grouping : goal.is_plain-returns-else-is_grouping
is_plain-returns-else-is_grouping t c =
    c.are_plain.ensures ∙ sym (ap (λ (e : Expr). is_plain (tree_of e)) c.in-Call.is ∙ other_call c.in-Call.at c.in-Call.name c.in-Call.arguments (sym c.is_grouping.ensures ∙ c.if-is_grouping.false))

pub is_plain-returns-then-not-are_plain_branches : goal.is_plain-returns-then-not-are_plain_branches
is_plain-returns-then-not-are_plain_branches t c =
    sym (ap (λ (e : Expr). is_plain (tree_of e)) c.in-Case.is
    ∙ plain_case c.in-Case.at c.in-Case.subject c.in-Case.branches c.in-Case.otherwise true false
    (ap (λ (e : Expr). is_plain (tree_of e)) (sym c.deref.ensures) ∙ sym c.is_plain.ensures ∙ c.if-not-is_plain.false)
    (sym c.are_plain_branches.ensures ∙ c.if-not-are_plain_branches.true))

pub is_plain-returns-in-None : goal.is_plain-returns-in-None
is_plain-returns-in-None t c =
    sym (ap (λ (e : Expr). is_plain (tree_of e)) c.in-Case.is
    ∙ plain_case c.in-Case.at c.in-Case.subject c.in-Case.branches c.in-Case.otherwise true true
    (ap (λ (e : Expr). is_plain (tree_of e)) (sym c.deref.ensures) ∙ sym c.is_plain.ensures ∙ c.if-not-is_plain.false)
    (sym c.are_plain_branches.ensures ∙ c.if-not-are_plain_branches.false)
    ∙ ap (λ (o : Option (Box Expr Global)). is_plain_else (otherwise_of (option_map (λ b. tree_of b.value) o))) c.in-None.is)

pub is_plain-returns-in-Some : goal.is_plain-returns-in-Some
is_plain-returns-in-Some t c =
    c.is_plain-in-Some.ensures ∙ ap (λ (e : Expr). is_plain (tree_of e)) c.deref-in-Some.ensures
    ∙ sym (ap (λ (e : Expr). is_plain (tree_of e)) c.in-Case.is
    ∙ plain_case c.in-Case.at c.in-Case.subject c.in-Case.branches c.in-Case.otherwise true true
    (ap (λ (e : Expr). is_plain (tree_of e)) (sym c.deref.ensures) ∙ sym c.is_plain.ensures ∙ c.if-not-is_plain.false)
    (sym c.are_plain_branches.ensures ∙ c.if-not-are_plain_branches.false)
    ∙ ap (λ (o : Option (Box Expr Global)). is_plain_else (otherwise_of (option_map (λ b. tree_of b.value) o))) c.in-Some.is)
