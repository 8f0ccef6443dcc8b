use Rattle.std.proofs.Common.{◌≡◌, ℕ, ◌-◌, ◌<◌, ◌^◌, ◌++◌, List, take, drop, length, codes, refl, sym, ◌∙◌, ap, subst, arith, length-drop}
use Rattle.std.specs.Option.{SomeIff}
use Rattle.std.proofs.lemmas.List.{take_all}
use Rattle.query_lexer.specs.Numbers.{number_after, number_of, six_of}
use Rattle.query_lexer.proofs.Numbering.{number_after_grows, number_of_grows, number_of_three, six_by}
use Rattle.query_lexer.proofs.numbers.millionths.Goals as goal

pub returns-in_err-number : goal.returns-in_err-number
returns-in_err-number c =
    let more = number_of_grows c.args.whole.now (six_of c.args.decimals.now) in
    rw c.from_residual.ensures (λ lt. c.in_err-number.ensures (omega arith))

pub returns-in_err-number-2 : goal.returns-in_err-number-2
returns-in_err-number-2 c =
    let parts = ap (λ (x : List ℕ). number_of (c.args.whole.now ++ x)) (six_by c.args.decimals.now (codes "000000") c.min-kept.result refl c.min-kept.ensures) ∙ number_of_three c.args.whole.now (take c.min-kept.result c.args.decimals.now) (drop c.min-kept.result (codes "000000")) in
    let more = number_after_grows (number_after (number_of c.args.whole.now) (take c.min-kept.result c.args.decimals.now)) (drop c.min-kept.result (codes "000000")) in
    let one : number_of c.args.whole.now ≡ c.in_ok-number.number = sym c.in_ok-number.ensures.1 in
    rw c.from_residual-in_err-number-2.ensures (λ lt. c.in_err-number-2.ensures (subst (λ (n : ℕ). number_after n (take c.min-kept.result c.args.decimals.now) < 2 ^ 64) one (omega arith)))

pub returns : goal.returns
returns c =
    let parts = ap (λ (x : List ℕ). number_of (c.args.whole.now ++ x)) (six_by c.args.decimals.now (codes "000000") c.min-kept.result refl c.min-kept.ensures) ∙ number_of_three c.args.whole.now (take c.min-kept.result c.args.decimals.now) (drop c.min-kept.result (codes "000000")) in
    let left : length (drop c.min-kept.result (codes "000000")) ≡ 6 - c.min-kept.result = length-drop c.min-kept.result (codes "000000") in
    let zeros = take_all (6 - c.min-kept.result) (drop c.min-kept.result (codes "000000")) (omega arith) in
    let total : number_after c.in_ok-number-2.number (take (6 - c.min-kept.result) (drop c.min-kept.result (codes "000000"))) ≡ number_of (c.args.whole.now ++ six_of c.args.decimals.now)
    = rw (zeros, c.in_ok-number-2.ensures.1, c.in_ok-number.ensures.1) (sym parts) in
    subst (λ (n : ℕ). SomeIff c.number_after-3.result (n < 2 ^ 64) n) total c.number_after-3.ensures
