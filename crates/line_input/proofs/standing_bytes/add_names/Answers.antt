use Rattle.std.proofs.Common.{ℕ, List, subst}
use Rattle.lp_model.specs.Outside.{GrowsIn}
use Rattle.lp_model.proofs.Results.{on_err}
use Rattle.ledger_model.specs.Numbers.{text_bytes}
use Rattle.line_input.proofs.Added.{some_added}
use Rattle.line_input.proofs.standing_bytes.add_names.Goals as goal

pub returns-in_err-add_text-clause-err : goal.returns-in_err-add_text-clause-err
returns-in_err-add_text-clause-err c =
    let grows = subst (λ (t : List ℕ). GrowsIn c.loop-column.to c.add_text.new.to (text_bytes t)) c.name.ensures c.in_err-add_text.ensures.err in
    on_err _ c.from_residual.result (some_added text_bytes c.args.columns.now c.loop-column.column-index c.column-item.result c.args.to.now c.loop-column.to c.add_text.new.to c.loop-column-test.true c.column-item.is c.loop-column.invariant grows)
