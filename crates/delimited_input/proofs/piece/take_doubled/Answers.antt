use Rattle.std.proofs.Common.{List, ℕ, drop, sym, ap, ◌∙◌}
use Rattle.delimited_input.specs.Fields.{quoted_field}
use Rattle.delimited_input.specs.Pieces.{behind_bytes}
use Rattle.delimited_input.proofs.PieceLemmas.{step_closed}
use Rattle.delimited_input.proofs.piece.take_doubled.Goals as goal

pub returns : goal.returns
returns c =
    let line = c.args.line.now in
    let cut = quoted_field c.args.separator (drop c.args.from line) in
    step_closed line cut (quoted_field c.args.separator (drop c.in_ok-to.to line)) c.add_quoted.new.held c.args.row.now c.push.new.self c.own_slot.result c.step_behind.result
    (sym (ap (λ (bytes : List ℕ). behind_bytes bytes cut) c.new-held.ensures) ∙ c.in_ok-to.ensures.bytes c.args.separator) c.step_behind.ensures c.in_ok-push.ensures.ok (c.own_slot.ensures line)
