use Rattle.std.proofs.Common.{◌+◌, drop, ◌∙◌, ap, sym, Bool, Option, Some, None, if◌then◌else◌}
use Rattle.lp_values.specs.declared.civil.Civil.{Civil}
use Rattle.lp_time.specs.Readings.{read_onto}
use Rattle.lp_time.proofs.ReadingLemmas.{read_on, read_none, read_end}
use Rattle.lp_time.proofs.reading.read_onto.Goals as goal

pub returns-in_err-number : goal.returns-in_err-number
returns-in_err-number c =
    c.from_residual.ensures ∙ sym (c.loop-piece.invariant ∙ read_none c.loop-piece.civil c.args.pieces.now c.loop-piece.piece-index c.piece-item.result c.loop-piece.rest.now c.loop-piece-test.true c.piece-item.is c.in_err-number.ensures.value)

pub loop-piece-preserved : goal.loop-piece-preserved
loop-piece-preserved c =
    let on = read_on c.loop-piece.civil c.args.pieces.now c.loop-piece.piece-index c.piece-item.result c.loop-piece.rest.now c.loop-piece-test.true c.piece-item.is (c.in_ok-number.number, c.in_ok-number.left.now) c.in_ok-number.ensures.value in
    c.loop-piece.invariant ∙ (on ∙ ap (λ v. read_onto v (drop (c.loop-piece.piece-index + 1) c.args.pieces.now) c.in_ok-number.left.now) (sym c.with_piece-civil.ensures))

abbrev chosen : Civil → Bool → Option Civil
chosen civil b = if b then Some civil else None

pub returns-then-is_empty : goal.returns-then-is_empty
returns-then-is_empty c =
    let all = c.loop-piece.invariant ∙ read_end c.loop-piece.civil c.args.pieces.now c.loop-piece.piece-index c.loop-piece.rest.now c.loop-piece-test.false in
    sym (all ∙ ap (chosen c.loop-piece.civil) (sym c.is_empty.ensures ∙ c.if-is_empty.true))

pub returns-else-is_empty : goal.returns-else-is_empty
returns-else-is_empty c =
    let all = c.loop-piece.invariant ∙ read_end c.loop-piece.civil c.args.pieces.now c.loop-piece.piece-index c.loop-piece.rest.now c.loop-piece-test.false in
    sym (all ∙ ap (chosen c.loop-piece.civil) (sym c.is_empty.ensures ∙ c.if-is_empty.false))
