use Rattle.std.proofs.Common.{◌∙◌, ◌==◌, ap, sym}
use Rattle.std.proofs.lemmas.Bool.{false_from_ne_true, eqb-true}
use Rattle.query_types.specs.Calls.{is_counting}
use Rattle.judging.proofs.Having.{counting_one, counting_other}
use Rattle.judging.proofs.asking.is_counting_call.Goals as goal

pub returns-then-len-eq1 : goal.returns-then-len-eq1
returns-then-len-eq1 c =
    let items = c.args.arguments.now.items.items in
    c.is_counting.ensures ∙ ap is_counting c.as_str.ensures ∙ counting_one c.args.name.now items (sym c.len.ensures ∙ c.if-len-eq1.true)

pub returns-else-len-eq1 : goal.returns-else-len-eq1
returns-else-len-eq1 c =
    let items = c.args.arguments.now.items.items in
    false_from_ne_true (c.len.result == 1) (λ e. c.if-len-eq1.false (eqb-true c.len.result 1 e))
    ∙ counting_other c.args.name.now items (λ e. c.if-len-eq1.false (c.len.ensures ∙ e))
