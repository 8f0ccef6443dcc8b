use Rattle.std.proofs.Common.{◌≡◌, ◌<◌, ◌+◌, ℕ, length, drop, ap, ◌∙◌, arith}
use Rattle.std.proofs.lemmas.List.{length-drop}
use Rattle.std.specs.List.{position_or_len}
use Rattle.memchr.specs.Find.{is_byte}
use Rattle.delimited_input.proofs.PieceLemmas.{plain_last, plain_next}
use Rattle.delimited_input.proofs.piece.take_plain.Goals as goal

pub returns-then-to-line : goal.returns-then-to-line
returns-then-to-line c =
    let from = c.args.from in
    let to : ℕ = from + c.length_before.result in
    let e = ap (λ n. from + n) (c.length_before.ensures.length ∙ ap (position_or_len (is_byte c.args.separator)) c.bytes_from.ensures) in
    plain_last c.args.separator c.args.line.now from to c.requires e c.args.row.now c.push.new.self c.in_ok-slot_at.field-0 c.in_ok-push.ensures.ok c.in_ok-slot_at.ensures c.if-to-line.true

pub returns-else-to-line : goal.returns-else-to-line
returns-else-to-line c =
    let from = c.args.from in
    let to : ℕ = from + c.length_before.result in
    let e = ap (λ n. from + n) (c.length_before.ensures.length ∙ ap (position_or_len (is_byte c.args.separator)) c.bytes_from.ensures) in
    let left : length c.bytes_from.result.now ≡ length (drop from c.args.line.now) = ap length c.bytes_from.ensures in
    let more : to < length c.args.line.now = omega (arith, left, c.length_before.ensures.fits, length-drop from c.args.line.now, c.requires, c.if-to-line.false) in
    plain_next c.args.separator c.args.line.now from to c.requires e c.args.row.now c.push.new.self c.in_ok-slot_at.field-0 c.in_ok-push.ensures.ok c.in_ok-slot_at.ensures more
