use Rattle.std.proofs.Common.{◌∙◌, List, refl, sym, ap}
use Rattle.std.proofs.lemmas.List.{at_drop_all}
use Rattle.query_tree.specs.declared.query.Query.{Query}
use Rattle.query_text.proofs.Placing.{within, within_passes, within_stands, within_list}
use Rattle.query_text.proofs.stdin.stdin_within.Goals as goal

pub loop-query-init : goal.loop-query-init
loop-query-init c = refl

pub loop-query-preserved : goal.loop-query-preserved
loop-query-preserved c = c.loop-query.invariant
    ∙ within_passes c.deref-query-items.result.now c.loop-query.query-index c.query-item.result c.loop-query-test.true c.query-item.is c.in_default.ensures

pub returns-in-Some : goal.returns-in-Some
returns-in-Some c = sym (within_list c.args.queries.now
    ∙ ap (λ (qs : List Query). within qs) (sym c.deref-query-items.ensures.value)
    ∙ c.loop-query.invariant
    ∙ within_stands c.deref-query-items.result.now c.loop-query.query-index c.query-item.result c.in-Some.at c.loop-query-test.true c.query-item.is c.in-Some.ensures)

pub returns : goal.returns
returns c = sym (within_list c.args.queries.now
    ∙ ap (λ (qs : List Query). within qs) (sym c.deref-query-items.ensures.value)
    ∙ c.loop-query.invariant
    ∙ at_drop_all within c.deref-query-items.result.now c.loop-query.query-index c.loop-query-test.false)
