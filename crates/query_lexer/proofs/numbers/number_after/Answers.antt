use Rattle.std.proofs.Common.{◌≡◌, ℕ, ◌*◌, ◌+◌, ◌-◌, drop, get_or, List, ◌^◌, ◌<◌, subst, drop_of_length-le, sym, ◌∙◌, ap, arith}
use Rattle.query_lexer.specs.Numbers.{number_after}
use Rattle.query_lexer.proofs.Numbering.{number_after_more, number_after_grows}
use Rattle.query_lexer.proofs.numbers.number_after.Goals as goal

pub returns-in_err-checked_mul : goal.returns-in_err-checked_mul
returns-in_err-checked_mul c =
    let same = c.loop-digit.invariant.same in
    let step = number_after_more c.loop-digit.so_far c.args.digits.now c.loop-digit.digit-index c.loop-digit-test.true in
    let more = number_after_grows (c.loop-digit.so_far * 10 + (get_or c.args.digits.now c.loop-digit.digit-index 0 - 48)) (drop (c.loop-digit.digit-index + 1) c.args.digits.now) in
    rw c.from_residual.ensures (λ lt. c.in_err-checked_mul.ensures (omega arith))

pub returns-in_err-so_far : goal.returns-in_err-so_far
returns-in_err-so_far c =
    let same = c.loop-digit.invariant.same in
    let step = number_after_more c.loop-digit.so_far c.args.digits.now c.loop-digit.digit-index c.loop-digit-test.true in
    let more = number_after_grows (c.loop-digit.so_far * 10 + (get_or c.args.digits.now c.loop-digit.digit-index 0 - 48)) (drop (c.loop-digit.digit-index + 1) c.args.digits.now) in
    rw c.from_residual-in_err-so_far.ensures (λ lt. c.in_err-so_far.ensures (omega arith))

pub loop-digit-preserved : goal.loop-digit-preserved
loop-digit-preserved c =
    let step = number_after_more c.loop-digit.so_far c.args.digits.now c.loop-digit.digit-index c.loop-digit-test.true in
    let next : c.in_ok-so_far.so_far ≡ c.loop-digit.so_far * 10 + (get_or c.args.digits.now c.loop-digit.digit-index 0 - 48) = omega arith in
    record { same = rw next (sym step ∙ c.loop-digit.invariant.same); small = omega arith }

pub returns : goal.returns
returns c =
    let same : c.loop-digit.so_far ≡ number_after c.args.number c.args.digits.now = ap (λ (x : List ℕ). number_after c.loop-digit.so_far x) (sym (drop_of_length-le c.args.digits.now c.loop-digit-test.false)) ∙ c.loop-digit.invariant.same in
    (subst (λ (n : ℕ). n < 2 ^ 64) same c.loop-digit.invariant.small, same)
