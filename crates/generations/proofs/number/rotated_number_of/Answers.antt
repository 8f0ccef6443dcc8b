use Rattle.std.proofs.Common.{arith}
use Rattle.generations.proofs.Numbers.{plain_of, one_plain}
use Rattle.generations.proofs.number.rotated_number_of.Goals as goal

pub returns-then-number-gt-MOST : goal.returns-then-number-gt-MOST
returns-then-number-gt-MOST c = λ number is.
    let same = one_plain c.args.text.now c.in-Some.number number c.in-Some.ensures (plain_of c.args.text.now number is) in
    omega (arith, same, is.small, c.if-number-gt-MOST.true)

pub returns-else-number-gt-MOST : goal.returns-else-number-gt-MOST
returns-else-number-gt-MOST c = record { some = c.in-Some.ensures.some; small = omega (arith, c.if-number-gt-MOST.false); is = c.in-Some.ensures.is }

pub returns-in-None : goal.returns-in-None
returns-in-None c = λ number is. c.in-None.ensures number (plain_of c.args.text.now number is)
