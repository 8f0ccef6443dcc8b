use Rattle.std.proofs.Common.{arith}
use Rattle.std.specs.Str.{chars}
use Rattle.text_functions.proofs.LikeLemmas.{at_whole, at_last, at_skip}
use Rattle.text_functions.proofs.likeness.walk.Goals as goal

pub returns-in-Whole-true-clause-meaning : goal.returns-in-Whole-true-clause-meaning
returns-in-Whole-true-clause-meaning c =
    at_whole (chars c.args.pattern.now) (chars c.args.text.now) (chars c.args.pattern.now) (chars c.loop-next.rest.now) c.in-Whole-true.field-0 c.loop-next.invariant.same c.in-Whole-true.ensures.meaning c.in-Whole-true.field-0-test

pub returns-in_default-clause-meaning : goal.returns-in_default-clause-meaning
returns-in_default-clause-meaning c =
    at_last (chars c.args.pattern.now) (chars c.args.text.now) (chars c.args.pattern.now) c.loop-next.rest.now c.in-Whole-false.field-0 c.loop-next.invariant.same c.in-Whole-false.ensures.meaning c.in-Whole-false.field-0-test c.in_default.ensures

pub loop-next-preserved : goal.loop-next-preserved
loop-next-preserved c =
    let shorter = c.in-Some.ensures.1 in
    let less = c.loop-next.invariant.less in
    record {
      same = at_skip (chars c.args.pattern.now) (chars c.args.text.now) (chars c.args.pattern.now) (chars c.loop-next.rest.now) c.in-Some.field-0-0 (chars c.in-Some.next.now) c.in-Whole-false.field-0 c.loop-next.invariant.same c.in-Whole-false.ensures.meaning c.in-Whole-false.field-0-test c.in-Some.ensures.0;
      less = omega arith;
      text = c.in-Some.ensures.2;
    }
