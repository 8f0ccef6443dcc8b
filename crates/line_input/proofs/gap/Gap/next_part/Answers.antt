use Rattle.std.proofs.Common.{ap, length, ◌+◌, ◌∙◌, sym, arith, rules}
use Rattle.std.proofs.lemmas.List.{length-drop}
use Rattle.line_input.proofs.Parting.{next_part_none, next_part_some}
use Rattle.line_input.specs.Parts.{is_gap}
use Rattle.std.specs.List.{position_or_len, prefix_len}
use Rattle.line_input.proofs.gap.Gap.next_part.Goals as goal

pub returns-then-length-eq0 : goal.returns-then-length-eq0
returns-then-length-eq0 c =
    let gap = is_gap c.args.self in
    next_part_none gap c.args.line.now c.args.at (c.args.at + c.gap_length.result)
    (ap (λ n. c.args.at + n) (c.gap_length.ensures.length ∙ ap (prefix_len gap) c.bytes_from.ensures))
    (ap (position_or_len gap) (sym c.bytes_from-2.ensures) ∙ (sym c.part_length-length.ensures.length ∙ c.if-length-eq0.true))

pub returns : goal.returns
returns c =
    let gap = is_gap c.args.self in
    next_part_some gap c.args.line.now c.args.at (c.args.at + c.gap_length.result) c.part_length-length.result
    (ap (λ n. c.args.at + n) (c.gap_length.ensures.length ∙ ap (prefix_len gap) c.bytes_from.ensures))
    (c.part_length-length.ensures.length ∙ ap (position_or_len gap) c.bytes_from-2.ensures)
    (search rules) (omega (arith, c.part_length-length.ensures.fits, length-drop (c.args.at + c.gap_length.result) c.args.line.now, ap length c.bytes_from-2.ensures, c.gap_length.ensures.fits, length-drop c.args.at c.args.line.now, ap length c.bytes_from.ensures, c.requires))
