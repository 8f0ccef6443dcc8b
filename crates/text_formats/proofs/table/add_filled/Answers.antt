use Rattle.std.proofs.Common.{◌++◌, [], ◌∷◌, replicate}
use Rattle.lp_model.proofs.Results.{on_err}
use Rattle.lp_model.proofs.Buffers.{grows_front, grows_later}
use Rattle.text_formats.proofs.table.add_filled.Goals as goal

pub returns-in_err-add_times-clause-err : goal.returns-in_err-add_times-clause-err
returns-in_err-add_times-clause-err c =
    let cell = c.args.cell.now in
    let spaces = replicate c.args.spaces 32 in
    let new = c.add_times.new.to in
    on_err _ c.from_residual-in_err-add_times.result
    (grows_front c.args.to.now new (cell ++ spaces) (32 ∷ []) (grows_later c.args.to.now c.add.new.self new cell spaces c.in_ok-add.ensures.ok c.in_err-add_times.ensures.err))
