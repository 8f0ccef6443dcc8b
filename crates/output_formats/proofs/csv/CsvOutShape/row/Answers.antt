use Rattle.lp_model.proofs.Results.{on_err_map}
use Rattle.output_formats.proofs.Stopping.{begun_row}
use Rattle.output_formats.proofs.csv.CsvOutShape.row.Goals as goal

pub returns-clause-err : goal.returns-clause-err
returns-clause-err c = on_err_map _ _ c.add_values.result (begun_row _ c.args.values.now c.args.to.now c.add_values.new.to) c.add_values.ensures.err
