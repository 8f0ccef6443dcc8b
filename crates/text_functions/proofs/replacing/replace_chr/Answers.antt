use Rattle.std.specs.String.{string_bytes}
use Rattle.std.specs.Str.{chars}
use Rattle.std.proofs.Common.{Some, ap, ◌∙◌}
use Rattle.text_functions.specs.Replacing.{replaced_character, replaced_characters}
use Rattle.text_functions.proofs.CharacterLemmas.{no_characters}
use Rattle.text_functions.proofs.ReplaceLemmas.{within_fits, each_last}
use Rattle.text_functions.proofs.replacing.replace_chr.Goals as goal

pub returns : goal.returns
returns c =
    let all = each_last (replaced_character c.args.some.now c.args.by.now) (replaced_characters c.args.text.now c.args.some.now c.args.by.now) (string_bytes c.loop-first.made) (chars c.loop-first.rest.now) (no_characters c.loop-first.rest.now c.in_default.ensures) c.loop-first.invariant.made in
    ap Some c.from_string.ensures ∙ within_fits c.args.most (replaced_characters c.args.text.now c.args.some.now c.args.by.now) (string_bytes c.loop-first.made) all c.loop-first.invariant.room
