use Rattle.std.proofs.Common.{◌≤◌, ℕ, List, length, drop, subst, ap, ◌∙◌}
use Rattle.std.specs.List.{prefix_len}
use Rattle.ncsa_input.specs.Lines.{is_space}
use Rattle.ncsa_input.proofs.Taking.{behind_none, behind_some}
use Rattle.ncsa_input.proofs.pieces.behind_spaces.Goals as goal

pub returns-then-size-eq0 : goal.returns-then-size-eq0
returns-then-size-eq0 c =
    behind_none (drop c.args.at c.args.line.now) c.gap_length-size.result (c.gap_length-size.ensures.length ∙ ap (prefix_len is_space) c.bytes_from.ensures) c.if-size-eq0.true

pub returns-else-size-eq0 : goal.returns-else-size-eq0
returns-else-size-eq0 c =
    behind_some c.args.line.now c.args.at c.gap_length-size.result (c.gap_length-size.ensures.length ∙ ap (prefix_len is_space) c.bytes_from.ensures) c.if-size-eq0.false c.requires
    (subst (λ (text : List ℕ). c.gap_length-size.result ≤ length text) c.bytes_from.ensures c.gap_length-size.ensures.fits)
