use Rattle.std.proofs.Common.{sym}
use Rattle.ncsa_input.proofs.Taking.{closing_start, closing_found, closing_behind, closing_at_mark, closing_unmarked, other_mark}
use Rattle.ncsa_input.proofs.pieces.closing.Goals as goal

pub loop-at-init : goal.loop-at-init
loop-at-init c = closing_start c.args.text.now

pub returns-in_default-clause-place : goal.returns-in_default-clause-place
returns-in_default-clause-place c = sym (closing_unmarked c.args.text.now c.loop-at.at c.in_default.ensures c.loop-at.invariant)

pub returns-then-text-mark-eq34-clause-place : goal.returns-then-text-mark-eq34-clause-place
returns-then-text-mark-eq34-clause-place c =
    let text = c.args.text.now in
    let mark = c.in-Some.mark in
    sym (closing_found text mark c.in-Some.ensures.1 c.if-text-mark-eq34.true (closing_at_mark text c.loop-at.at mark c.in-Some.ensures.0 c.loop-at.invariant))

pub loop-at-preserved : goal.loop-at-preserved
loop-at-preserved c =
    let text = c.args.text.now in
    let at = c.loop-at.at in
    let mark = c.in-Some.mark in
    let back = other_mark text at mark c.in-Some.ensures c.if-text-mark-eq34.false in
    closing_behind text mark c.in-Some.ensures.1 back (closing_at_mark text at mark c.in-Some.ensures.0 c.loop-at.invariant)
