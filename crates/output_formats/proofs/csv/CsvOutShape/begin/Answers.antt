use Rattle.std.proofs.Common.{sym, ap, ◌∙◌}
use Rattle.lp_model.proofs.Results.{on_err}
use Rattle.output_formats.specs.Headers.{is_headed}
use Rattle.output_formats.proofs.Stopping.{begun_names}
use Rattle.output_formats.proofs.csv.CsvOutShape.begin.Goals as goal

pub returns-in_err-add_names-clause-err : goal.returns-in_err-add_names-clause-err
returns-in_err-add_names-clause-err c =
    let headed = ap (λ h. is_headed h c.args.fresh) (sym c.self.view_is) ∙ (sym c.is_headed.ensures ∙ c.if-is_headed.true) in
    on_err _ c.from_residual.result (begun_names c.args.self.now c.args.fresh c.args.names.now c.args.to.now c.add_names.new.to headed c.in_err-add_names.ensures.err)
