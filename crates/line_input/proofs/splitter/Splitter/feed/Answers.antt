use Rattle.std.proofs.Common.{◌≡◌, ◌≤◌, ◌+◌, ◌++◌, length, drop, ap, ◌∙◌, arith, rules}
use Rattle.std.proofs.lemmas.List.{length-drop}
use Rattle.std.proofs.lemmas.Grind.{common_steps}
use Rattle.lp_model.specs.Lines.{is_lf}
use Rattle.line_input.proofs.Split.{first_later}
use Rattle.line_input.proofs.splitter.Splitter.feed.Goals as goal

pub invariant_of-self-2 : goal.invariant_of-self-2
invariant_of-self-2 c =
    let later = first_later is_lf c.let_go.new.buffer.items c.args.piece.now in
    grind (arith, common_steps, c.in_ok-extend_from_slice.ensures.items, later)

pub returns-in_err-extend_from_slice-clause-err : goal.returns-in_err-extend_from_slice-clause-err
returns-in_err-extend_from_slice-clause-err c =
    let size = ap length c.keep_from.ensures.left ∙ length-drop c.self.inside.head c.reserve.new.self.items in
    absurd (grind (arith, common_steps, size, c.in_err-extend_from_slice.ensures.full, c.let_go.ensures.shorter, c.let_go.ensures.capacity, c.keep_from.ensures.room, c.in_ok-reserve.ensures.ok))
