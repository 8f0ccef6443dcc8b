use Rattle.std.proofs.Common.{ap}
use Rattle.lp_model.proofs.Results.{on_err_map}
use Rattle.lp_model.proofs.Buffers.{grows_along}
use Rattle.tpl_output.specs.Tpl.{TplState, rendered}
use Rattle.tpl_output.proofs.Replacing.{tpl_in_row}
use Rattle.tpl_output.proofs.tpl.TplShape.row.Goals as goal

pub returns-clause-err : goal.returns-clause-err
returns-clause-err c =
    on_err_map _ _ c.add_filling.result
    (λ grows. tpl_in_row c.args.self.now c.args.values.now c.args.to.now c.add_filling.new.to (grows_along c.args.to.now c.add_filling.new.to _ _ (ap (λ (s : TplState). rendered s.body c.args.values.now) c.self.view_is) grows)) c.add_filling.ensures.err
