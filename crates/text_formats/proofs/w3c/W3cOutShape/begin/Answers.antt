use Rattle.std.proofs.Common.{FitsSigned, w64, rules}
use Rattle.std.proofs.lemmas.Int.{to_z-of_z}
use Rattle.lp_model.proofs.Results.{on_err_map}
use Rattle.text_formats.proofs.Stopping.{w3c_in_head}
use Rattle.text_formats.proofs.w3c.W3cOutShape.begin.Goals as goal

pub returns-clause-err : goal.returns-clause-err
returns-clause-err c =
    let fits : FitsSigned w64 c.self.inside.moment = search rules in
    let head = simp to_z-of_z at c.add_head.ensures.err in
    on_err_map _ _ c.add_head.result (w3c_in_head c.args.self.now c.self.inside.moment c.args.fresh c.args.names.now c.args.to.now c.add_head.new.to c.self.view_is) head
