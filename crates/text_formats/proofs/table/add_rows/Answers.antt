use Rattle.std.proofs.Common.{◌∷◌}
use Rattle.lp_model.proofs.Results.{on_err}
use Rattle.text_formats.specs.Tables.{row_line}
use Rattle.text_formats.proofs.Tabling.{grows_rows}
use Rattle.text_formats.proofs.table.add_rows.Goals as goal

pub returns-in_err-add_row-clause-err : goal.returns-in_err-add_row-clause-err
returns-in_err-add_row-clause-err c =
    on_err _ c.from_residual.result
    (grows_rows (row_line (c.args.title.now ∷ c.args.rows.now)) c.args.rows.now c.loop-row.row-index c.row-item.result c.args.to.now c.loop-row.to c.add_row.new.to c.loop-row-test.true c.row-item.is c.loop-row.invariant c.in_err-add_row.ensures.err)
