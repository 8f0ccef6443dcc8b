use Rattle.std.proofs.Common.{◌∙◌, List, map, subst}
use Rattle.grammar.specs.Trees.{trees_of as listed}
use Rattle.query_tree.specs.Views.{tree_of}
use Rattle.query_tree.specs.declared.expression.Expr.{Expr}
use Rattle.query_types.specs.Terms.{Term}
use Rattle.query_types.specs.Meanings.{Answers}
use Rattle.query_types.specs.Conditions.{all_fitting}
use Rattle.query_types.proofs.Answering.{faulty, hands_on}
use Rattle.query_types.proofs.Steps.{fitting_stops}
use Rattle.row_planning.proofs.conditions.all_fitting.Goals as goal

pub returns-in_err-meaning : goal.returns-in_err-meaning
returns-in_err-meaning c =
    subst (λ (xs : List Expr). Answers (λ (m : List Term). m) c.from_residual.result (all_fitting c.args.table.now c.args.moment.now c.args.aliases.now c.args.kind (listed (map tree_of xs)))) c.deref-item-items.ensures.value
    (faulty (λ m. m) c.from_residual.result c.in_err-meaning.field-0.0 _ c.from_residual.ensures.1
    (hands_on (λ m. m) (λ m. m) c.in_err-meaning.field-0.0 _ _ c.in_err-meaning.ensures
    (λ e. c.loop-item.invariant ∙ fitting_stops c.args.table.now c.args.moment.now c.args.aliases.now c.args.kind c.loop-item.meanings _ c.loop-item.item-index c.item-item.result _ c.loop-item-test.true c.item-item.is e)))
