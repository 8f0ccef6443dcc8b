use Rattle.text_output.specs.Output.{kind_of}
use Rattle.row_output.proofs.Texts.{keeps_same}
use Rattle.row_output.proofs.file_output.find_base.Goals as goal

pub returns-in-Overwrite-clause-kept : goal.returns-in-Overwrite-clause-kept
returns-in-Overwrite-clause-kept g c = keeps_same (kind_of g.G.Stage.state g.G.Stage.ended) c.args.stage.now
