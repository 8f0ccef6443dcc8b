use Rattle.std.proofs.Common.{false, [], ap, ◌∙◌, FitsSigned, w64, rules}
use Rattle.std.proofs.lemmas.Int.{to_z-of_z}
use Rattle.lp_model.proofs.Results.{on_err}
use Rattle.tpl_output.specs.Marks.{filled}
use Rattle.tpl_output.specs.Sections.{Sections}
use Rattle.tpl_output.specs.Tpl.{TplState}
use Rattle.tpl_output.proofs.Replacing.{tpl_in_header}
use Rattle.tpl_output.proofs.tpl.TplShape.begin.Goals as goal

pub returns-in_err-add_filled-clause-err : goal.returns-in_err-add_filled-clause-err
returns-in_err-add_filled-clause-err c =
    let fits : FitsSigned w64 c.self.inside.moment = search rules in
    let grows = simp to_z-of_z at c.in_err-add_filled.ensures.err in
    let names = c.args.names.now in
    let header = c.header.ensures ∙ ap (λ (t : Sections). t.header) c.deref-3.ensures in
    let same = ap (filled names c.self.inside.moment false []) header ∙ ap (λ (s : TplState). filled names s.moment false [] s.sections.header) c.self.view_is in
    on_err _ c.from_residual-in_err-add_filled.result (tpl_in_header c.args.self.now c.args.fresh names c.args.to.now c.add_filled.new.to (filled names c.self.inside.moment false [] c.header.result.now) same grows)
