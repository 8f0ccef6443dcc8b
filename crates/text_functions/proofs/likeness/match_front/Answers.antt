use Rattle.std.specs.Str.{chars}
use Rattle.std.proofs.Common.{sym, ◌∙◌, arith}
use Rattle.text_functions.proofs.LikeLemmas.{at_percent, at_nothing, at_other, at_same, at_end}
use Rattle.text_functions.proofs.likeness.match_front.Goals as goal

pub returns-then-wanted-eq37-clause-meaning : goal.returns-then-wanted-eq37-clause-meaning
returns-then-wanted-eq37-clause-meaning c =
    let i = c.loop-wanted.invariant in
    at_percent (chars c.args.pattern.now) (chars c.args.text.now) (chars c.loop-wanted.left.now) (chars c.loop-wanted.rest.now) c.in-Some.wanted (chars c.in-Some.behind.now) i.same i.later c.in-Some.ensures.0 c.if-wanted-eq37.true

pub returns-in_default-first_character-clause-meaning : goal.returns-in_default-first_character-clause-meaning
returns-in_default-first_character-clause-meaning c =
    let i = c.loop-wanted.invariant in
    at_nothing (chars c.args.pattern.now) (chars c.args.text.now) (chars c.loop-wanted.left.now) c.loop-wanted.rest.now c.in-Some.wanted (chars c.in-Some.behind.now) i.same c.in-Some.ensures.0 c.if-wanted-eq37.false c.in_default-first_character.ensures

pub returns-then-not-stands_for-clause-meaning : goal.returns-then-not-stands_for-clause-meaning
returns-then-not-stands_for-clause-meaning c =
    let i = c.loop-wanted.invariant in
    at_other (chars c.args.pattern.now) (chars c.args.text.now) (chars c.loop-wanted.left.now) (chars c.loop-wanted.rest.now) c.in-Some.wanted c.in-Some-first_character.found (chars c.in-Some.behind.now) (chars c.in-Some-first_character.next.now) i.same c.in-Some.ensures.0 c.if-wanted-eq37.false c.in-Some-first_character.ensures.0 (sym c.stands_for.ensures ∙ c.if-not-stands_for.true)

pub loop-wanted-preserved : goal.loop-wanted-preserved
loop-wanted-preserved c =
    let i = c.loop-wanted.invariant in
    let q = at_same (chars c.args.pattern.now) (chars c.args.text.now) (chars c.loop-wanted.left.now) (chars c.loop-wanted.rest.now) c.in-Some.wanted c.in-Some-first_character.found (chars c.in-Some.behind.now) (chars c.in-Some-first_character.next.now) i.same i.later c.in-Some.ensures.0 c.if-wanted-eq37.false c.in-Some-first_character.ensures.0 (sym c.stands_for.ensures ∙ c.if-not-stands_for.false) in
    let shorter = c.in-Some.ensures.1 in
    let less = c.in-Some-first_character.ensures.1 in
    record {
      same = q.0;
      later = q.1;
      less_pattern = omega arith;
      less_text = omega arith;
      pattern_text = c.in-Some.ensures.2;
      text = c.in-Some-first_character.ensures.2;
    }

pub returns-clause-meaning : goal.returns-clause-meaning
returns-clause-meaning c =
    let i = c.loop-wanted.invariant in
    at_end (chars c.args.pattern.now) (chars c.args.text.now) c.loop-wanted.left.now c.loop-wanted.rest.now c.is_empty.result i.same i.text c.in_default.ensures c.is_empty.ensures
