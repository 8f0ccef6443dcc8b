use Rattle.std.proofs.Common.{refl, ap}
use Rattle.text_output.specs.Output.{kind_of}
use Rattle.row_output.specs.Sinks.{Purpose}
use Rattle.row_output.proofs.Early.{open_early}
use Rattle.row_output.proofs.KeptCalls.{asked_for, open_has, open_stops, open_refuses}
use Rattle.row_output.proofs.kept.RowOutput.hand_on.Goals as goal

pub returns-clause-asked : goal.returns-clause-asked
returns-clause-asked g c = ap (λ (p : Purpose). asked_for p c.args.self.now.order) c.hand_on.ensures.purpose

pub returns-clause-has : goal.returns-clause-has
returns-clause-has g c = open_has (kind_of g.G.Stage.state g.G.Stage.ended) c.args.self.now c.args.stage.now c.hand_on.new.stage c.hand_on.result _ refl refl refl c.hand_on.ensures.has

pub returns-clause-stop : goal.returns-clause-stop
returns-clause-stop g c = open_stops (kind_of g.G.Stage.state g.G.Stage.ended) c.args.self.now c.args.stage.now c.hand_on.new.stage c.hand_on.result c.hand_on.ensures.stop

pub returns-clause-refused : goal.returns-clause-refused
returns-clause-refused g c = open_refuses (kind_of g.G.Stage.state g.G.Stage.ended) c.args.self.now c.args.stage.now c.hand_on.new.stage c.hand_on.result c.hand_on.ensures.refused

pub returns-clause-early : goal.returns-clause-early
returns-clause-early g c = open_early (kind_of g.G.Stage.state g.G.Stage.ended) c.args.self.now c.args.stage.now c.hand_on.result c.hand_on.ensures.refused
