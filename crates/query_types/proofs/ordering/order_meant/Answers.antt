use Rattle.std.proofs.Common.{◌∙◌, List, map, subst, Err}
use Rattle.grammar.specs.Trees.{trees_of as listed}
use Rattle.query_tree.specs.Views.{tree_of}
use Rattle.query_tree.specs.declared.expression.Expr.{Expr}
use Rattle.query_types.specs.Terms.{Term}
use Rattle.query_types.specs.Meanings.{Answers, all_meant}
use Rattle.query_types.proofs.Answering.{faulty, hands_on}
use Rattle.query_types.proofs.ExpressionsMeant.{argument_step}
use Rattle.query_types.proofs.ordering.order_meant.Goals as goal

pub returns-in_err-meaning : goal.returns-in_err-meaning
returns-in_err-meaning c =
    let fault = c.in_err-meaning.field-0.0 in
    subst (λ (xs : List Expr). Answers (λ (m : List Term). m) c.from_residual.result (all_meant c.args.table.now c.args.moment.now c.args.aliases.now (listed (map tree_of xs)))) c.deref-value-items.ensures.value
    (faulty (λ m. m) c.from_residual.result fault _ c.from_residual.ensures.1
    (hands_on (λ m. m) (λ m. m) fault _ _ c.in_err-meaning.ensures
    (λ e. c.loop-value.invariant ∙ argument_step c.args.table.now c.args.moment.now c.args.aliases.now c.loop-value.meanings c.deref-value-items.result.now c.loop-value.value-index c.value-item.result (Err fault) c.loop-value-test.true c.value-item.is e)))
