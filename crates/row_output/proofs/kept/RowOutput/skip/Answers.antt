use Rattle.std.proofs.Common.{refl}
use Rattle.text_output.specs.Output.{kind_of}
use Rattle.row_output.proofs.KeptCalls.{rows_skip}
use Rattle.row_output.proofs.kept.RowOutput.skip.Goals as goal

pub returns-clause-has : goal.returns-clause-has
returns-clause-has g c = λ start rows row has. rows_skip (kind_of g.G.Stage.state g.G.Stage.ended) c.args.self.now _ start rows row c.args.stage.now c.requires.drops refl refl refl refl has
