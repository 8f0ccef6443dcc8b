use Rattle.std.proofs.Common.{rules, sym, ap, ◌∙◌, arith}
use Rattle.std.specs.Fmt.{decimal}
use Rattle.std.proofs.lemmas.Bool.{false≢true}
use Rattle.generations.proofs.Numbers.{number_decimal, one_read, none_read, number_utf8, written}
use Rattle.generations.proofs.number.number_of.Goals as goal

pub returns-then-number-eq0 : goal.returns-then-number-eq0
returns-then-number-eq0 c = λ number is. let same = one_read c.args.text.now c.in-Ok.digits.now c.in-Ok-parse.number number c.parse.result c.in-Ok.ensures.cases.0 c.parse.ensures.value.0 c.in-Ok-parse.is is in omega (arith, same, is.some, c.if-number-eq0.true)

pub returns-then-writes : goal.returns-then-writes
returns-then-writes c = written c.args.text.now c.in-Ok-parse.number (omega (arith, c.if-number-eq0.false)) (search rules) (c.writes.ensures.0 c.if-writes.true)

pub returns-else-writes : goal.returns-else-writes
returns-else-writes c = λ number is.
    let same = one_read c.args.text.now c.in-Ok.digits.now c.in-Ok-parse.number number c.parse.result c.in-Ok.ensures.cases.0 c.parse.ensures.value.0 c.in-Ok-parse.is is in
    false≢true (sym c.if-writes.false ∙ c.writes.ensures.1 (ap decimal same ∙ sym (number_decimal c.args.text.now number is)))

pub returns-in-Err-parse : goal.returns-in-Err-parse
returns-in-Err-parse c = λ number is. none_read c.args.text.now c.in-Ok.digits.now c.in-Err-parse.field-0 number c.parse.result c.in-Ok.ensures.cases.0 c.parse.ensures.value.0 c.in-Err-parse.is is

pub returns-in-Err : goal.returns-in-Err
returns-in-Err c = λ number is. c.in-Err.ensures.cases.0 (number_utf8 c.args.text.now number is)
