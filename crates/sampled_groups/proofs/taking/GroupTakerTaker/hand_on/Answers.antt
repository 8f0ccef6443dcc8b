use Rattle.text_output.specs.Output.{kind_of}
use Rattle.sampled_groups.specs.Taking.{none_taken}
use Rattle.sampled_groups.proofs.taking.GroupTakerTaker.hand_on.Goals as goal

pub returns-clause-takes : goal.returns-clause-takes
returns-clause-takes g c = none_taken (kind_of g.G.Stage.state g.G.Stage.ended) c.args.self.now c.args.stage.now
