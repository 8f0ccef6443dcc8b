use Rattle.std.proofs.Common.{◌+◌, ◌*◌, sym, ◌∙◌}
use Rattle.tpl_output.proofs.Digits.{number_next, number_none, number_all, near_next}
use Rattle.tpl_output.proofs.marking.column_of.Goals as goal

pub returns-in_default : goal.returns-in_default
returns-in_default c =
    let so_far = c.loop-byte.invariant in
    number_none c.args.columns c.args.digits.now c.loop-byte.byte-index so_far.value c.loop-byte-test.true (sym c.digit_of.ensures.value ∙ c.in_default.is) so_far.rest

pub loop-byte-preserved : goal.loop-byte-preserved
loop-byte-preserved c =
    let so_far = c.loop-byte.invariant in
    record {
      value = so_far.value * 10 + c.in-Some.digit;
      rest = number_next c.args.digits.now c.loop-byte.byte-index so_far.value c.in-Some.digit c.loop-byte-test.true (sym c.digit_of.ensures.value ∙ c.in-Some.is) so_far.rest;
      near = near_next c.args.columns c.loop-byte.number so_far.value c.in-Some.digit c.with_digit-number.result c.with_digit-number.ensures.value so_far.near;
      small = c.with_digit-number.ensures.small;
    }

pub returns : goal.returns
returns c =
    let so_far = c.loop-byte.invariant in
    c.place_of.ensures ∙ number_all c.args.columns c.loop-byte.number so_far.value c.args.digits.now c.loop-byte.byte-index c.loop-byte-test.false so_far.rest so_far.near
