use Rattle.text_output.specs.Output.{kind_of}
use Rattle.query_run.specs.Writing.{writes_none}
use Rattle.query_run.proofs.writing.WriterTaker.end_log.Goals as goal

pub returns-clause-takes : goal.returns-clause-takes
returns-clause-takes g c = writes_none (kind_of g.G.Stage.state g.G.Stage.ended) g.P.Picker.picks c.args.self.now c.args.stage.now
