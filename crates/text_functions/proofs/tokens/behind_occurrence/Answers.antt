use Rattle.std.proofs.Common.{arith, refl, sym, ap, reverse, length, ◌<◌, ◌≡◌, ◌∙◌}
use Rattle.std.proofs.lemmas.List.{length-reverse, reverse-reverse}
use Rattle.text_functions.proofs.Cutting.{mirrored, mirrored_lacks}
use Rattle.text_functions.proofs.PrefixLemmas.{behind_start, behind_next, behind_none, suffix_cut}
use Rattle.text_functions.proofs.tokens.behind_occurrence.Goals as goal

pub loop-before-init : goal.loop-before-init
loop-before-init c = record { behind = behind_start (reverse c.args.separator.now) (reverse c.args.text.now) c.args.index; text = c.utf8.text }

pub loop-before-preserved : goal.loop-before-preserved
loop-before-preserved c =
    let turned : length (reverse c.args.separator.now) ≡ length c.args.separator.now = length-reverse c.args.separator.now in
    let some : 0 < length c.args.separator.now = c.requires in
    record {
      behind = behind_next (reverse c.args.separator.now) (reverse c.args.text.now) c.args.index (reverse c.loop-before.rest.now) c.loop-before.left (reverse c.in-Some.next.now) (reverse c.in-Some.before.now) c.loop-before.invariant.behind (omega arith) (mirrored c.args.separator.now c.loop-before.rest.now c.in-Some.before.now c.in-Some.next.now c.in-Some.ensures.cut) (omega (arith, c.if-left-eq0.false));
      text = c.in-Some.ensures.utf8.0;
    }

pub returns : goal.returns
returns c =
    sym (reverse-reverse c.args.text.now) ∙ ap reverse (sym (behind_none (reverse c.args.separator.now) (reverse c.args.text.now) c.args.index (reverse c.loop-before.rest.now) c.loop-before.left c.loop-before.invariant.behind (mirrored_lacks c.args.separator.now c.loop-before.rest.now c.in_default.ensures.cut)))

pub split_at-requires : goal.split_at-requires
split_at-requires c =
    (suffix_cut c.args.separator.now c.args.text.now c.args.index c.loop-before.rest.now c.loop-before.left c.in-Some.before.now c.in-Some.next.now _ c.loop-before.invariant.behind c.requires c.in-Some.ensures.cut c.if-left-eq0.true c.utf8.text c.utf8.separator c.in-Some.ensures.utf8.0 refl).0

pub returns-then-left-eq0 : goal.returns-then-left-eq0
returns-then-left-eq0 c =
    c.split_at.ensures.back ∙ (suffix_cut c.args.separator.now c.args.text.now c.args.index c.loop-before.rest.now c.loop-before.left c.in-Some.before.now c.in-Some.next.now _ c.loop-before.invariant.behind c.requires c.in-Some.ensures.cut c.if-left-eq0.true c.utf8.text c.utf8.separator c.in-Some.ensures.utf8.0 refl).1
