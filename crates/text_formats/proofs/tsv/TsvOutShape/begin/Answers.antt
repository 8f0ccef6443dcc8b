use Rattle.std.proofs.Common.{sym, ap, ◌∙◌}
use Rattle.lp_model.proofs.Results.{on_err}
use Rattle.output_formats.specs.Headers.{is_headed}
use Rattle.text_formats.specs.Tsv.{TsvWanted, tsv_style}
use Rattle.text_formats.proofs.Stopping.{tsv_in_names}
use Rattle.text_formats.proofs.tsv.TsvOutShape.begin.Goals as goal

pub returns-in_err-add_names-clause-err : goal.returns-in_err-add_names-clause-err
returns-in_err-add_names-clause-err c =
    let headed = ap (λ (s : TsvWanted). is_headed s.headers c.args.fresh) (sym c.self.view_is) ∙ (sym c.is_headed.ensures ∙ c.if-is_headed.true) in
    on_err _ c.from_residual.result
    (tsv_in_names c.args.self.now c.tsv_style.result c.args.fresh c.args.names.now c.args.to.now c.add_names.new.to (c.tsv_style.ensures ∙ ap (λ (s : TsvWanted). tsv_style s.separator) c.self.view_is) headed c.in_err-add_names.ensures.err)
