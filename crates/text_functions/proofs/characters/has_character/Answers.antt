use Rattle.std.proofs.Common.{◌==◌, ℕ, sym, ap, ◌∙◌}
use Rattle.std.specs.List.{list_any}
use Rattle.text_functions.proofs.CharacterLemmas.{no_characters}
use Rattle.text_functions.proofs.characters.has_character.Goals as goal

pub returns : goal.returns
returns c =
    sym (c.loop-first.invariant.same ∙ ap (list_any (λ (d : ℕ). d == c.args.wanted)) (no_characters c.loop-first.rest.now c.in_default.ensures))
