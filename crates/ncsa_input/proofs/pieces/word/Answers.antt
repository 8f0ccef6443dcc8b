use Rattle.std.proofs.Common.{◌≤◌, ℕ, List, length, subst, ap, ◌∙◌}
use Rattle.std.specs.List.{position_or_len}
use Rattle.ncsa_input.specs.Lines.{is_space}
use Rattle.ncsa_input.proofs.Taking.{word_none, word_piece}
use Rattle.ncsa_input.proofs.pieces.word.Goals as goal

pub returns-then-size-eq0 : goal.returns-then-size-eq0
returns-then-size-eq0 c =
    word_none c.args.line.now c.args.at c.part_length-size.result (c.part_length-size.ensures.length ∙ ap (position_or_len is_space) c.bytes_from.ensures) c.if-size-eq0.true

pub returns : goal.returns
returns c =
    word_piece c.args.line.now c.args.at c.part_length-size.result (c.part_length-size.ensures.length ∙ ap (position_or_len is_space) c.bytes_from.ensures) c.if-size-eq0.false c.requires
    (subst (λ (text : List ℕ). c.part_length-size.result ≤ length text) c.bytes_from.ensures c.part_length-size.ensures.fits)
