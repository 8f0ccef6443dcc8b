use Rattle.std.proofs.Common.{◌∙◌, refl, sym}
use Rattle.lp_model.proofs.Results.{on_err}
use Rattle.text_output.specs.Output.{kind_of}
use Rattle.query_run.specs.Writing.{puts_none}
use Rattle.query_run.proofs.Puts.{puts_as, skips_none, skips_row}
use Rattle.query_run.proofs.writer.Writer.pass_over.Goals as goal

pub returns-in_err-gives-clause-err : goal.returns-in_err-gives-clause-err
returns-in_err-gives-clause-err g c =
    let kind = kind_of g.G.Stage.state g.G.Stage.ended in
    let w = c.args.self.now in
    on_err _ c.from_residual.result (puts_as kind _ w w _ c.args.stage.now _ refl refl refl refl (puts_none kind w c.args.stage.now))

pub returns-then-not-gives-clause-takes : goal.returns-then-not-gives-clause-takes
returns-then-not-gives-clause-takes g c =
    let kind = kind_of g.G.Stage.state g.G.Stage.ended in
    let w = c.args.self.now in
    skips_none kind g.P.Picker.picks w _ c.args.stage.now _ (sym c.if-not-gives.true ∙ c.in_ok-gives.ensures)
    (puts_as kind _ w w _ c.args.stage.now _ refl refl refl refl (puts_none kind w c.args.stage.now))

pub returns-clause-takes : goal.returns-clause-takes
returns-clause-takes g c =
    skips_row (kind_of g.G.Stage.state g.G.Stage.ended) g.P.Picker.picks c.args.self.now _ c.args.stage.now _ (sym c.if-not-gives.false ∙ c.in_ok-gives.ensures)
    c.skip.ensures.has c.skip.ensures.asked refl refl refl
