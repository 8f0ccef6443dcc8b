use Rattle.std.proofs.Common.{◌≡◌, ◌+◌, ◌-◌, refl, ◌∙◌, arith}
use Rattle.query_lexer.proofs.numbers.number.Goals as goal

pub returns : goal.returns
returns c =
    let size : c.sign_length-start.result + c.digits_at.result - c.sign_length-start.result ≡ c.digits_at.result = omega arith in
    c.number_by.ensures ∙ rw (size, c.decimals_at.ensures.digits, c.is_signed.ensures, c.digits_at.ensures.length, c.sign_length-start.ensures.length) refl
