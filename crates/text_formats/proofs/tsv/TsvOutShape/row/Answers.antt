use Rattle.std.proofs.Common.{ap, ◌∙◌}
use Rattle.lp_model.proofs.Results.{on_err_map}
use Rattle.text_formats.specs.Tsv.{TsvWanted, tsv_style}
use Rattle.text_formats.proofs.Stopping.{tsv_in_row}
use Rattle.text_formats.proofs.tsv.TsvOutShape.row.Goals as goal

pub returns-clause-err : goal.returns-clause-err
returns-clause-err c =
    on_err_map _ _ c.add_values.result
    (tsv_in_row c.args.self.now c.tsv_style.result c.args.values.now c.args.to.now c.add_values.new.to (c.tsv_style.ensures ∙ ap (λ (s : TsvWanted). tsv_style s.separator) c.self.view_is)) c.add_values.ensures.err
