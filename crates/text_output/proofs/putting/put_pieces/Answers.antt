use Rattle.std.proofs.Common.{◌∙◌, ap, take}
use Rattle.text_output.specs.Output.{kind_of, reached}
use Rattle.text_output.proofs.Moving.{front_take, all_take}
use Rattle.text_output.proofs.putting.put_pieces.Goals as goal

pub returns-in_default-clause-err : goal.returns-in_default-clause-err
returns-in_default-clause-err g c = front_take (reached (kind_of g.G.Stage.state g.G.Stage.ended) c.args.target.now c.args.stage.now) c.put.new.stage _ c.args.held.now _ (c.bytes_to.ensures ∙ ap (take _) c.as_slice.ensures) c.in_default.ensures.front

pub returns-in_default-add-clause-err : goal.returns-in_default-add-clause-err
returns-in_default-add-clause-err g c = all_take (reached (kind_of g.G.Stage.state g.G.Stage.ended) c.args.target.now c.args.stage.now) (reached (kind_of g.G.Stage.state g.G.Stage.ended) c.put.new.self c.put.new.stage) _ c.args.held.now _ (c.bytes_to.ensures ∙ ap (take _) c.as_slice.ensures) c.in-Ok.ensures.gained
