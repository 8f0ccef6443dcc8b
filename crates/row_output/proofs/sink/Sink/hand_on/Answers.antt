use Rattle.any_format.specs.Formats.{format_text}
use Rattle.std.proofs.Common.{ap, true, refl, List, [], ◌∷◌, ◌++◌}
use Rattle.order_top.specs.Finish.{Row}
use Rattle.text_output.specs.Output.{kind_of}
use Rattle.row_output.specs.declared.fault.Refused.{Refused}
use Rattle.row_output.specs.Rows.{IsRefusedAt, standard_at}
use Rattle.row_output.specs.Sinks.{HasSinkRows, files_in}
use Rattle.row_output.proofs.SinkCalls.{standard_same, text_had, text_stops, told_put, failed_put}
use Rattle.row_output.proofs.sink.Sink.hand_on.Goals as goal

pub returns-in-Ok-clause-purpose : goal.returns-in-Ok-clause-purpose
returns-in-Ok-clause-purpose g c = standard_same (kind_of g.G.Stage.state g.G.Stage.ended) c.args.self.now c.in-Standard.standard c.in-Standard.is c.args.stage.now c.hand_on.new.stage (record c.in-Standard.standard { text = c.hand_on.new.self }) (ap format_text c.hand_on.ensures.shape) refl

pub returns-in-Ok-clause-has : goal.returns-in-Ok-clause-has
returns-in-Ok-clause-has g c = λ start rows has.
    let kind = kind_of g.G.Stage.state g.G.Stage.ended in
    c.in-Ok.ensures.text true c.in-Standard.standard.names rows (standard_at kind start) (text_had kind c.args.self.now c.in-Standard.standard c.in-Standard.is c.args.stage.now c.hand_on.new.stage start rows has)

pub returns-in-Ok-clause-handed : goal.returns-in-Ok-clause-handed
returns-in-Ok-clause-handed g c = c.in-Ok.ensures.small

pub returns-in-Err-clause-purpose : goal.returns-in-Err-clause-purpose
returns-in-Err-clause-purpose g c = standard_same (kind_of g.G.Stage.state g.G.Stage.ended) c.args.self.now c.in-Standard.standard c.in-Standard.is c.args.stage.now c.hand_on.new.stage (record c.in-Standard.standard { text = c.hand_on.new.self }) (ap format_text c.hand_on.ensures.shape) refl

pub returns-in-Err-clause-stop : goal.returns-in-Err-clause-stop
returns-in-Err-clause-stop g c = λ start rows more has.
    let kind = kind_of g.G.Stage.state g.G.Stage.ended in
    let old = c.in-Standard.standard in
    text_stops kind c.args.self.now old c.in-Standard.is c.args.stage.now c.hand_on.new.stage start (rows ++ more)
    (c.in-Err.ensures.front true old.names rows more (standard_at kind start) (text_had kind c.args.self.now old c.in-Standard.is c.args.stage.now c.hand_on.new.stage start rows has))

pub returns-in-Err-clause-refused : goal.returns-in-Err-clause-refused
returns-in-Err-clause-refused g c =
    told_put (λ (why : Refused). (start : _) (rows more : List Row) → HasSinkRows (kind_of g.G.Stage.state g.G.Stage.ended) c.args.self.now start rows c.args.stage.now → IsRefusedAt (files_in c.args.self.now) (rows ++ more) why)
    c.put_fault.result c.in-Err.fault c.put_fault.ensures

pub returns-in-Err-clause-failed : goal.returns-in-Err-clause-failed
returns-in-Err-clause-failed g c = failed_put c.put_fault.result c.in-Err.fault _ c.put_fault.ensures c.in-Err.ensures.failed
