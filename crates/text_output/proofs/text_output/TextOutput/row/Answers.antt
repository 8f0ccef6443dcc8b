use Rattle.std.proofs.Common.{◌++◌, ◌∷◌, []}
use Rattle.lp_model.proofs.Results.{on_err}
use Rattle.text_output.specs.Fronts.{front_of, front_failed}
use Rattle.text_output.specs.Output.{kind_of, reached}
use Rattle.text_output.proofs.Moving.{UnderWay_step}
use Rattle.text_output.proofs.text_output.TextOutput.row.Goals as goal

pub returns-clause-text : goal.returns-clause-text
returns-clause-text g c = λ fresh names rows start under_way.
    UnderWay_step (g.F.Shape.has_text c.args.self.now.shape fresh names rows) (g.F.Shape.has_text c.row.new.self fresh names (rows ++ c.args.row.now ∷ [])) start _ _ _ _ _
    c.in-Ok.ensures.ok.0 c.in-Ok.ensures.ok.1 c.in_ok-put_full.ensures.moves (λ so_far text. c.in-Ok.ensures.ok.2 fresh names rows so_far text) under_way

pub returns-in_default-clause-front : goal.returns-in_default-clause-front
returns-in_default-clause-front g c = λ fresh names rows more start under_way.
    front_of g.F.Shape.text g.F.Shape.has_text g.met.F.Shape.begins c.args.self.now.shape fresh names rows (c.args.row.now ∷ more) start (reached (kind_of g.G.Stage.state g.G.Stage.ended) c.args.self.now.target c.args.stage.now) c.args.self.now.held under_way

pub returns-in_err-put_full-clause-front : goal.returns-in_err-put_full-clause-front
returns-in_err-put_full-clause-front g c = on_err _ c.from_residual.result (λ fresh names rows more start under_way.
    front_failed g.F.Shape.text g.F.Shape.has_text g.met.F.Shape.begins c.args.self.now.shape c.row.new.self fresh names rows c.args.row.now more start (reached (kind_of g.G.Stage.state g.G.Stage.ended) c.args.self.now.target c.args.stage.now) c.put_full.new.stage c.args.self.now.held c.row.new.to c.in-Ok.ensures.ok.0
    c.in-Ok.ensures.ok.1 (λ so_far text. c.in-Ok.ensures.ok.2 fresh names rows so_far text) c.in-Ok.ensures.format under_way c.in_err-put_full.ensures.err)
