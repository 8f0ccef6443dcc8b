use Rattle.std.proofs.Common.{Result, Ok, Err}
use Rattle.lp_model.proofs.Results.{on_err_map}
use Rattle.text_output.specs.Fronts.{front_moved}
use Rattle.text_output.specs.Output.{kind_of, reached, GainsFront, MovesText}
use Rattle.text_output.proofs.Moving.{UnderWay_move, on_ok_map}
use Rattle.text_output.proofs.text_output.TextOutput.hand_on.Goals as goal

pub returns-clause-text : goal.returns-clause-text
returns-clause-text g c =
    let kind = kind_of g.G.Stage.state g.G.Stage.ended in
    let old = c.args.self.now in
    on_ok_map (MovesText (reached kind old.target c.args.stage.now) (reached kind c.put_full.new.target c.put_full.new.stage) old.held c.put_full.new.held) _ c.put_full.result
    (λ moves fresh names rows start under_way. UnderWay_move (g.F.Shape.has_text old.shape fresh names rows) start _ _ old.held c.put_full.new.held moves under_way) c.put_full.ensures.moves

pub returns-clause-front : goal.returns-clause-front
returns-clause-front g c =
    let kind = kind_of g.G.Stage.state g.G.Stage.ended in
    let old = c.args.self.now in
    on_err_map (GainsFront (reached kind old.target c.args.stage.now) c.put_full.new.stage old.held) _ c.put_full.result
    (λ some fresh names rows more start under_way. front_moved g.F.Shape.text g.F.Shape.has_text g.met.F.Shape.begins old.shape fresh names rows more start (reached kind old.target c.args.stage.now) c.put_full.new.stage old.held under_way some) c.put_full.ensures.err
