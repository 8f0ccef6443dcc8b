use Rattle.lp_model.proofs.Results.{on_err_map}
use Rattle.text_formats.proofs.Stopping.{w3c_in_row}
use Rattle.text_formats.proofs.w3c.W3cOutShape.row.Goals as goal

pub returns-clause-err : goal.returns-clause-err
returns-clause-err c = on_err_map _ _ c.add_values.result (w3c_in_row c.args.self.now c.args.values.now c.args.to.now c.add_values.new.to) c.add_values.ensures.err
