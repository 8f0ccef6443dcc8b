use Rattle.std.proofs.Common.{arith, refl, sym, ◌∙◌}
use Rattle.text_functions.proofs.PrefixLemmas.{behind_start, behind_next, behind_none, prefix_cut}
use Rattle.text_functions.proofs.tokens.before_occurrence.Goals as goal

pub loop-before-init : goal.loop-before-init
loop-before-init c = record { behind = behind_start c.args.separator.now c.args.text.now c.args.index; text = c.utf8.text }

pub loop-before-preserved : goal.loop-before-preserved
loop-before-preserved c = record {
  behind = behind_next c.args.separator.now c.args.text.now c.args.index c.loop-before.rest.now c.loop-before.left c.in-Some.before.now c.in-Some.next.now c.loop-before.invariant.behind c.requires c.in-Some.ensures.cut (omega (arith, c.if-left-eq0.false));
  text = c.in-Some.ensures.utf8.1;
}

pub returns : goal.returns
returns c =
    sym (behind_none c.args.separator.now c.args.text.now c.args.index c.loop-before.rest.now c.loop-before.left c.loop-before.invariant.behind c.in_default.ensures.cut)

pub split_at-requires : goal.split_at-requires
split_at-requires c =
    (prefix_cut c.args.separator.now c.args.text.now c.args.index c.loop-before.rest.now c.loop-before.left c.in-Some.before.now c.in-Some.next.now _ c.loop-before.invariant.behind c.requires c.in-Some.ensures.cut c.if-left-eq0.true c.utf8.separator c.in-Some.ensures.utf8.1 refl).0

pub returns-then-left-eq0 : goal.returns-then-left-eq0
returns-then-left-eq0 c =
    c.split_at.ensures.front ∙ (prefix_cut c.args.separator.now c.args.text.now c.args.index c.loop-before.rest.now c.loop-before.left c.in-Some.before.now c.in-Some.next.now _ c.loop-before.invariant.behind c.requires c.in-Some.ensures.cut c.if-left-eq0.true c.utf8.separator c.in-Some.ensures.utf8.1 refl).1
