use Rattle.std.proofs.Common.{[], ◌∷◌, replicate, if◌then◌else◌}
use Rattle.lp_model.proofs.Results.{on_err}
use Rattle.lp_model.proofs.Buffers.{grows_front}
use Rattle.text_formats.proofs.table.add_dashes.Goals as goal

pub returns-in_err-add_times-clause-err : goal.returns-in_err-add_times-clause-err
returns-in_err-add_times-clause-err c =
    on_err _ c.from_residual.result (grows_front c.args.to.now c.add_times.new.to (replicate c.args.width 45) (if c.args.last then [] else 32 ∷ []) c.in_err-add_times.ensures.err)
