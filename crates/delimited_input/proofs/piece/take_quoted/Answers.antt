use Rattle.std.proofs.Common.{◌+◌, ℕ, drop, ap, ◌∙◌}
use Rattle.std.specs.List.{position_or_len}
use Rattle.memchr.specs.Find.{is_byte}
use Rattle.line_input.specs.Taken.{part_of}
use Rattle.delimited_input.specs.Fields.{quoted_field}
use Rattle.delimited_input.proofs.PieceLemmas.{quoted_at, step_closed}
use Rattle.delimited_input.proofs.piece.take_quoted.Goals as goal

pub returns : goal.returns
returns c =
    let line = c.args.line.now in
    let from = c.args.from in
    let to : ℕ = from + c.length_before.result in
    let e = ap (λ n. from + n) (c.length_before.ensures.length ∙ ap (position_or_len (is_byte 34)) c.bytes_from.ensures) in
    step_closed line (quoted_field c.args.separator (drop from line)) (quoted_field c.args.separator (drop to line)) (part_of line from to) c.args.row.now c.push.new.self c.in_ok-slot_at.field-0 c.step_behind.result
    (quoted_at c.args.separator line from to c.requires e) c.step_behind.ensures c.in_ok-push.ensures.ok c.in_ok-slot_at.ensures
