use Rattle.std.proofs.Common.{◌≡◌, ◌<◌, ◌==◌, length, false, arith, sym, ◌∙◌}
use Rattle.std.proofs.lemmas.Bool.{eqb-false}
use Rattle.text_functions.proofs.PieceLemmas.{count-cut, cut-shorter}
use Rattle.text_functions.proofs.PlaceLemmas.{count_end}
use Rattle.text_functions.proofs.places.strcnt.Goals as goal

pub loop-next-preserved : goal.loop-next-preserved
loop-next-preserved c =
    let other : (length c.args.part.now == 0) ≡ false = sym c.is_empty.ensures ∙ c.if-is_empty.false in
    let some : 0 < length c.args.part.now = omega (arith, eqb-false (length c.args.part.now) 0 other) in
    let count = count-cut c.args.part.now c.loop-next.rest.now c.in-Some.field-0-0.now c.in-Some.next.now some c.in-Some.ensures.cut in
    let less = cut-shorter c.args.part.now c.loop-next.rest.now c.in-Some.field-0-0.now c.in-Some.next.now some c.in-Some.ensures.cut in
    record { counted = omega arith; room = omega arith; text = c.in-Some.ensures.utf8.1 }

pub returns-clause-value : goal.returns-clause-value
returns-clause-value c =
    let other : (length c.args.part.now == 0) ≡ false = sym c.is_empty.ensures ∙ c.if-is_empty.false in
    count_end c.args.text.now c.args.part.now c.loop-next.rest.now c.loop-next.count other c.loop-next.invariant.counted c.in_default.ensures.cut
