use Rattle.std.proofs.Common.{arith, sym, ◌∙◌}
use Rattle.text_functions.proofs.TokenLemmas.{token_here, token_next, token_last, token_past}
use Rattle.text_functions.proofs.tokens.piece_at.Goals as goal

pub returns-then-left-eq0 : goal.returns-then-left-eq0
returns-then-left-eq0 c =
    sym (c.loop-before.invariant.same ∙ token_here c.args.separator.now c.loop-before.rest.now c.in-Some.before.now c.in-Some.next.now c.loop-before.left c.requires c.in-Some.ensures.cut c.if-left-eq0.true)

pub loop-before-preserved : goal.loop-before-preserved
loop-before-preserved c = record {
  same = c.loop-before.invariant.same ∙ token_next c.args.separator.now c.loop-before.rest.now c.in-Some.before.now c.in-Some.next.now c.loop-before.left c.requires c.in-Some.ensures.cut (omega (arith, c.if-left-eq0.false));
  text = c.in-Some.ensures.utf8.1;
}

pub returns-then-left-eq0-2 : goal.returns-then-left-eq0-2
returns-then-left-eq0-2 c =
    sym (c.loop-before.invariant.same ∙ token_last c.args.separator.now c.loop-before.rest.now c.loop-before.left c.in_default.ensures.cut c.if-left-eq0-2.true)

pub returns-else-left-eq0-2 : goal.returns-else-left-eq0-2
returns-else-left-eq0-2 c =
    sym (c.loop-before.invariant.same ∙ token_past c.args.separator.now c.loop-before.rest.now c.loop-before.left c.in_default.ensures.cut (omega (arith, c.if-left-eq0-2.false)))
