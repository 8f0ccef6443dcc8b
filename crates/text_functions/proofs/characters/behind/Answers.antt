use Rattle.std.proofs.Common.{◌≡◌, ℕ, drop, sym, ap, ◌∙◌, arith}
use Rattle.std.specs.Str.{chars, encode_utf8_all}
use Rattle.std.proofs.lemmas.Str.{encodes-chars}
use Rattle.text_functions.proofs.CharacterLemmas.{drop_none}
use Rattle.text_functions.proofs.characters.behind.Goals as goal

pub returns-in_default : goal.returns-in_default
returns-in_default c =
    drop_none c.loop-left.left c.loop-left.rest.now c.in_default.ensures ∙ sym (ap encode_utf8_all c.loop-left.invariant.same)

pub returns : goal.returns
returns c =
    let none : c.loop-left.left ≡ 0 = omega arith in
    sym (encodes-chars c.loop-left.rest.now c.loop-left.invariant.utf8)
    ∙ sym (ap encode_utf8_all (c.loop-left.invariant.same ∙ ap (λ (n : ℕ). drop n (chars c.loop-left.rest.now)) none))
