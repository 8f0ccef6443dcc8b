use Rattle.lp_model.proofs.Results.{on_err}
use Rattle.text_formats.specs.Tables.{shown_byte}
use Rattle.text_formats.proofs.Stopping.{grows_mapped}
use Rattle.text_formats.proofs.cells.add_each.Goals as goal

pub returns-in_err-push-clause-err : goal.returns-in_err-push-clause-err
returns-in_err-push-clause-err c =
    on_err _ c.from_residual.result (grows_mapped shown_byte c.args.text.now c.loop-byte.byte-index c.args.to.now c.loop-byte.to c.push.new.self c.loop-byte.invariant c.in_err-push.ensures.err)
