use Rattle.order_top.specs.Finish.{Row}
use Rattle.std.proofs.Common.{List}
use Rattle.text_output.specs.Output.{kind_of}
use Rattle.row_output.specs.declared.fault.Refused.{Refused}
use Rattle.row_output.specs.Rows.{IsRefusedAt}
use Rattle.row_output.specs.Sinks.{HasSinkRows, files_in}
use Rattle.row_output.proofs.SinkCalls.{files_end, files_stop_at, files_refuse_at, text_end, text_stop_at, none_refused}
use Rattle.row_output.proofs.sink.Sink.end.Goals as goal

pub returns-in-Standard-clause-hold : goal.returns-in-Standard-clause-hold
returns-in-Standard-clause-hold g c = text_end (kind_of g.G.Stage.state g.G.Stage.ended) c.args.self.now c.in-Standard.standard c.in-Standard.is c.args.stage.now c.end_standard.new.stage c.end_standard.result c.end_standard.ensures.hold

pub returns-in-Standard-clause-stop : goal.returns-in-Standard-clause-stop
returns-in-Standard-clause-stop g c = text_stop_at (kind_of g.G.Stage.state g.G.Stage.ended) c.args.self.now c.in-Standard.standard c.in-Standard.is c.args.stage.now c.end_standard.new.stage c.end_standard.result c.end_standard.ensures.stop

pub returns-in-Standard-clause-refused : goal.returns-in-Standard-clause-refused
returns-in-Standard-clause-refused g c =
    none_refused (λ (why : Refused). (start : _) (rows : List Row) → HasSinkRows (kind_of g.G.Stage.state g.G.Stage.ended) c.args.self.now start rows c.args.stage.now → IsRefusedAt (files_in c.args.self.now) rows why)
    c.end_standard.result c.end_standard.ensures.unrefused

pub returns-in-Files-clause-hold : goal.returns-in-Files-clause-hold
returns-in-Files-clause-hold g c = files_end (kind_of g.G.Stage.state g.G.Stage.ended) c.args.self.now c.in-Files.files c.in-Files.is c.args.stage.now c.end.new.stage c.end.result c.end.ensures.hold

pub returns-in-Files-clause-stop : goal.returns-in-Files-clause-stop
returns-in-Files-clause-stop g c = files_stop_at (kind_of g.G.Stage.state g.G.Stage.ended) c.args.self.now c.in-Files.files c.in-Files.is c.args.stage.now c.end.new.stage c.end.result c.end.ensures.stop

pub returns-in-Files-clause-refused : goal.returns-in-Files-clause-refused
returns-in-Files-clause-refused g c = files_refuse_at (kind_of g.G.Stage.state g.G.Stage.ended) c.args.self.now c.in-Files.files c.in-Files.is c.args.stage.now c.end.new.stage c.end.result c.end.ensures.refused
