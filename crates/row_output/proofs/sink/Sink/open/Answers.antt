use Rattle.std.proofs.Common.{List, ◌++◌}
use Rattle.order_top.specs.Finish.{Row}
use Rattle.text_output.specs.Output.{kind_of}
use Rattle.row_output.proofs.SinkCalls.{files_same, files_have, files_opened, files_stop_in, files_refuse_in, opened_standard}
use Rattle.row_output.proofs.sink.Sink.open.Goals as goal

pub returns-in-Standard-clause-opened : goal.returns-in-Standard-clause-opened
returns-in-Standard-clause-opened g c = λ start rows has. opened_standard c.args.self.now _ c.in-Standard.is

pub returns-in-Files-clause-purpose : goal.returns-in-Files-clause-purpose
returns-in-Files-clause-purpose g c = files_same (kind_of g.G.Stage.state g.G.Stage.ended) c.args.self.now c.in-Files.files c.in-Files.is c.args.stage.now c.open.new.stage c.open.new.self c.open.ensures.same

pub returns-in-Files-clause-has : goal.returns-in-Files-clause-has
returns-in-Files-clause-has g c = files_have (kind_of g.G.Stage.state g.G.Stage.ended) c.args.self.now c.in-Files.files c.in-Files.is c.args.stage.now c.open.new.stage c.open.result c.open.new.self (λ rows. rows) c.open.ensures.has

pub returns-in-Files-clause-opened : goal.returns-in-Files-clause-opened
returns-in-Files-clause-opened g c = files_opened (kind_of g.G.Stage.state g.G.Stage.ended) c.args.self.now c.in-Files.files c.in-Files.is c.args.stage.now c.open.new.stage c.open.result c.open.new.self c.open.ensures.all

pub returns-in-Files-clause-stop : goal.returns-in-Files-clause-stop
returns-in-Files-clause-stop g c = files_stop_in (kind_of g.G.Stage.state g.G.Stage.ended) c.args.self.now c.in-Files.files c.in-Files.is c.args.stage.now c.open.new.stage c.open.result (λ rows more. rows ++ more) c.open.ensures.stop

pub returns-in-Files-clause-refused : goal.returns-in-Files-clause-refused
returns-in-Files-clause-refused g c = files_refuse_in (kind_of g.G.Stage.state g.G.Stage.ended) c.args.self.now c.in-Files.files c.in-Files.is c.args.stage.now c.open.new.stage c.open.result (λ rows more. rows ++ more) c.open.ensures.refused
