use Rattle.std.proofs.Common.{◌∙◌, ◌==◌, ap, sym}
use Rattle.std.proofs.lemmas.Bool.{false_from_ne_true, eqb-true}
use Rattle.query_types.specs.Calls.{is_aggregate}
use Rattle.query_types.proofs.Arguments.{grouping_one, grouping_other}
use Rattle.row_planning.proofs.built.is_grouping.Goals as goal

pub returns-then-len-eq1 : goal.returns-then-len-eq1
returns-then-len-eq1 c =
    let items = c.args.arguments.now.items.items in
    c.is_aggregate.ensures ∙ ap is_aggregate c.as_str.ensures ∙ grouping_one c.args.name.now items (sym c.len.ensures ∙ c.if-len-eq1.true)

pub returns-else-len-eq1 : goal.returns-else-len-eq1
returns-else-len-eq1 c =
    let items = c.args.arguments.now.items.items in
    false_from_ne_true (c.len.result == 1) (λ e. c.if-len-eq1.false (eqb-true c.len.result 1 e))
    ∙ grouping_other c.args.name.now items (λ e. c.if-len-eq1.false (c.len.ensures ∙ e))
