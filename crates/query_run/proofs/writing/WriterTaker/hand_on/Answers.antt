use Rattle.std.proofs.lemmas.Result.{on_ok_weaker}
use Rattle.text_output.specs.Output.{kind_of}
use Rattle.query_run.specs.Writing.{writes_nothing}
use Rattle.query_run.proofs.writing.WriterTaker.hand_on.Goals as goal

pub returns-clause-takes : goal.returns-clause-takes
returns-clause-takes g c = on_ok_weaker c.pass_on.result (λ puts. writes_nothing (kind_of g.G.Stage.state g.G.Stage.ended) g.P.Picker.picks c.args.self.now c.pass_on.new.self c.args.stage.now c.pass_on.new.stage puts) c.pass_on.ensures.takes
