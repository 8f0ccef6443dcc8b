use Rattle.std.proofs.Common.{◌≡◌, ◌++◌, ◌+◌, ◌-◌, List, ℕ, [], drop, take, length, ap, sym, ◌∙◌, arith, rules}
use Rattle.std.proofs.lemmas.Grind.{common_steps}
use Rattle.std.proofs.lemmas.List.{drop_all}
use Rattle.line_input.specs.Splitter.{Split}
use Rattle.line_input.proofs.Going.{rests_long, none_gone}
use Rattle.line_input.proofs.splitter.Splitter.unended.Goals as goal

pub returns-then-self-gt0 : goal.returns-then-self-gt0
returns-then-self-gt0 c =
    let inside = c.self.inside in
    let kept : c.bytes_from-left.result.now ≡ drop inside.head inside.buffer.items = search rules in
    let whole = ap (λ (t : List ℕ). inside.gone.bytes ++ t) kept ∙ ap (λ (s : Split). s.left) c.self.view_is in
    let place : inside.place ≡ c.args.self.now.place = ap (λ (s : Split). s.place) c.self.view_is in
    let held = ap (λ (s : Split). s.held) c.self.view_is in
    let end : ℕ = c.len-self-inside.result in
    let all : drop end inside.buffer.items ≡ [] = ap (drop end) (sym c.deref.ensures.value) ∙ drop_all end c.deref.result.now (omega (arith, c.deref.ensures.len, c.len-self-inside.ensures)) in
    let left = ap (λ (t : List ℕ). t ++ drop end inside.buffer.items) c.new-self-inside.ensures ∙ all in
    let empty : end - end ≡ 0 = omega arith in
    rests_long c.args.self.now _ inside.missing inside.gone.bytes c.bytes_from-left.result.now whole (search rules) c.if-self-gt0.true
    (ap (λ (n : ℕ). n + inside.missing + length c.bytes_from-left.result.now) place) left (ap (λ (n : ℕ). take n (drop end inside.buffer.items)) empty) held

pub returns-then-length-gt-LONGEST_LINE : goal.returns-then-length-gt-LONGEST_LINE
returns-then-length-gt-LONGEST_LINE c =
    let inside = c.self.inside in
    let none : inside.gone.bytes ≡ [] = none_gone inside.missing inside.gone.bytes (search rules) (omega (arith, c.if-self-gt0.false)) in
    grind (arith, common_steps, none)
