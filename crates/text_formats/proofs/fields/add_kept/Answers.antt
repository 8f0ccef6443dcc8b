use Rattle.lp_model.proofs.Results.{on_err}
use Rattle.text_formats.specs.Styles.{kept_byte}
use Rattle.text_formats.proofs.Stopping.{grows_mapped}
use Rattle.text_formats.proofs.fields.add_kept.Goals as goal

pub returns-in_err-push-clause-err : goal.returns-in_err-push-clause-err
returns-in_err-push-clause-err c =
    on_err _ c.from_residual.result (grows_mapped (kept_byte c.args.style) c.args.field.now c.loop-byte.byte-index c.args.to.now c.loop-byte.to c.push.new.self c.loop-byte.invariant c.in_err-push.ensures.err)
