use Rattle.std.proofs.Common.{◌≡◌, ◌++◌, sym, ap, ◌∙◌}
use Rattle.std.specs.Char.{encode_utf8}
use Rattle.text_functions.proofs.CharacterLemmas.{first_of}
use Rattle.text_functions.proofs.characters.first_character.Goals as goal

pub returns-in-Some : goal.returns-in-Some
returns-in-Some c =
    let whole : c.args.text.now ≡ encode_utf8 c.in-Some.first ++ c.as_str.result.now = sym c.chars-left.ensures.rest ∙ (c.in-Some.ensures.steps.0 ∙ ap (λ xs. encode_utf8 c.in-Some.first ++ xs) (sym c.as_str.ensures)) in
    let first = first_of c.args.text.now c.as_str.result.now c.in-Some.first c.utf8.text whole in
    (first.0, first.1, c.as_str.utf8)
