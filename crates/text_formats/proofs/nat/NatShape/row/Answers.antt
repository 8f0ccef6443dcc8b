use Rattle.std.proofs.Common.{sym, ◌∙◌, refl}
use Rattle.lp_model.proofs.Results.{on_err, on_err_map}
use Rattle.text_formats.proofs.Blocks.{nat_row_refused, nat_row_held, nat_row_filled, nat_row_stopped}
use Rattle.text_formats.proofs.Stopping.{on_ok_both}
use Rattle.text_formats.proofs.nat.NatShape.row.Goals as goal

pub returns-in_err-hold-clause-err : goal.returns-in_err-hold-clause-err
returns-in_err-hold-clause-err c = on_err _ c.from_residual.result (nat_row_refused c.args.self.now c.args.values.now c.args.to.now c.args.to.now refl)

pub returns-then-is_full-clause-ok : goal.returns-then-is_full-clause-ok
returns-then-is_full-clause-ok c =
    on_ok_both _ _ _ c.put_held.result
    (nat_row_filled c.args.self.now c.hold.new.self c.put_held.new.self c.args.values.now c.args.to.now c.put_held.new.to c.in_ok-hold.ensures.ok (sym c.is_full.ensures ∙ c.if-is_full.true)) c.put_held.ensures.next c.put_held.ensures.ok

pub returns-then-is_full-clause-err : goal.returns-then-is_full-clause-err
returns-then-is_full-clause-err c =
    on_err_map _ _ c.put_held.result
    (nat_row_stopped c.args.self.now c.hold.new.self c.args.values.now c.args.to.now c.put_held.new.to c.in_ok-hold.ensures.ok (sym c.is_full.ensures ∙ c.if-is_full.true)) c.put_held.ensures.err

pub returns-else-is_full-clause-ok : goal.returns-else-is_full-clause-ok
returns-else-is_full-clause-ok c =
    nat_row_held c.args.self.now c.hold.new.self c.args.values.now c.args.to.now c.in_ok-hold.ensures.ok (sym c.is_full.ensures ∙ c.if-is_full.false)
