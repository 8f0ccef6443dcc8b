use Rattle.std.proofs.Common.{◌+◌, ◌++◌, ◌∷◌, [], ℕ, List, subst, sym, ap, ◌∙◌}
use Rattle.line_input.proofs.Fronts.{HasNames, names_more, names_break}
use Rattle.line_input.proofs.standing_bytes.take_texts.Goals as goal

pub returns-in-None : goal.returns-in-None
returns-in-None c = names_break c.args.bytes.now c.loop-index.names c.loop-index.rest.now c.loop-index._index c.args.count c.loop-index.invariant c.loop-index-test.true c.in-None.ensures

pub loop-index-preserved : goal.loop-index-preserved
loop-index-preserved c =
    let more = names_more c.args.bytes.now c.loop-index.names c.loop-index.rest.now c.loop-index._index c.in-Some.name.now c.in-Some.behind.now c.loop-index.invariant c.in-Some.ensures in
    let pushed = c.in_ok-push-in-Some.ensures.ok ∙ ap (λ x. c.loop-index.names ++ x ∷ []) (c.new.ensures ∙ c.in_ok-from_str-in-Some.ensures) in
    subst (λ (names : List (List ℕ)). HasNames c.args.bytes.now names c.in-Some.behind.now (c.loop-index._index + 1)) (sym pushed) more
