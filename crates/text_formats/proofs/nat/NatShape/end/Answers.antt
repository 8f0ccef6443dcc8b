use Rattle.std.proofs.Common.{[], sym, ◌∙◌}
use Rattle.lp_model.proofs.Growing.{append-nil}
use Rattle.lp_model.proofs.Results.{on_err_map}
use Rattle.text_formats.proofs.Blocks.{block_of, nat_ended, nat_over, nat_in_end}
use Rattle.text_formats.proofs.Stopping.{on_ok_map}
use Rattle.text_formats.proofs.nat.NatShape.end.Goals as goal

pub returns-then-has_left-clause-ok : goal.returns-then-has_left-clause-ok
returns-then-has_left-clause-ok c =
    let state = c.args.self.now in
    on_ok_map _ _ c.add_held.result (λ added. (block_of state state.title state.held, added, λ fresh names rows so_far is. nat_ended state fresh names rows so_far (sym c.has_left.ensures ∙ c.if-has_left.true) is)) c.add_held.ensures.ok

pub returns-then-has_left-clause-err : goal.returns-then-has_left-clause-err
returns-then-has_left-clause-err c = on_err_map _ _ c.add_held.result (nat_in_end c.args.self.now c.args.to.now c.add_held.new.to (sym c.has_left.ensures ∙ c.if-has_left.true)) c.add_held.ensures.err

pub returns-else-has_left-clause-ok : goal.returns-else-has_left-clause-ok
returns-else-has_left-clause-ok c =
    ([], append-nil c.args.to.now, λ fresh names rows so_far is. nat_over c.args.self.now fresh names rows so_far (sym c.has_left.ensures ∙ c.if-has_left.false) is)
