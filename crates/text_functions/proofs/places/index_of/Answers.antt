use Rattle.std.proofs.Common.{◌≡◌, ◌<◌, ◌==◌, length, false, arith, sym, ap, ◌∙◌, Some}
use Rattle.std.proofs.lemmas.Bool.{eqb-false}
use Rattle.text_functions.proofs.PlaceLemmas.{index-cut, index-lacks}
use Rattle.text_functions.proofs.places.index_of.Goals as goal

pub returns-in_err-before-clause-value : goal.returns-in_err-before-clause-value
returns-in_err-before-clause-value c =
    let other : (length c.args.part.now == 0) ≡ false = sym c.is_empty.ensures ∙ c.if-is_empty.false in
    c.from_residual.ensures ∙ index-lacks c.args.text.now c.args.part.now other c.in_err-before.ensures.cut

pub returns-clause-value : goal.returns-clause-value
returns-clause-value c =
    let other : (length c.args.part.now == 0) ≡ false = sym c.is_empty.ensures ∙ c.if-is_empty.false in
    let some : 0 < length c.args.part.now = omega (arith, eqb-false (length c.args.part.now) 0 other) in
    ap Some c.size.ensures.value ∙ index-cut c.args.text.now c.args.part.now c.in_ok-before.before.now c.in_ok-before.field-0-1.now other some c.in_ok-before.ensures.cut
