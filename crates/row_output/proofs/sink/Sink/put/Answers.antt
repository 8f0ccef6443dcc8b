use Rattle.std.proofs.Common.{true, refl, List, [], ◌∷◌, ◌++◌}
use Rattle.order_top.specs.Finish.{Row}
use Rattle.text_output.specs.Output.{kind_of}
use Rattle.row_output.specs.declared.fault.Refused.{Refused}
use Rattle.row_output.specs.Rows.{IsRefusedAt, standard_at}
use Rattle.row_output.specs.Sinks.{HasSinkRows, files_in}
use Rattle.row_output.proofs.SinkCalls.{files_same, files_have, files_little, files_stop_in, files_refuse_in, same_text, standard_same, text_had, text_stops, told_put, failed_put}
use Rattle.row_output.proofs.sink.Sink.put.Goals as goal

pub returns-in-Ok-clause-purpose : goal.returns-in-Ok-clause-purpose
returns-in-Ok-clause-purpose g c = standard_same (kind_of g.G.Stage.state g.G.Stage.ended) c.args.self.now c.in-Standard.standard c.in-Standard.is c.args.stage.now c.row.new.stage (record c.in-Standard.standard { text = c.row.new.self }) (same_text c.row.new.self.shape c.in-Standard.standard.text.shape c.row.ensures.format c.row.ensures.at_once) refl

pub returns-in-Ok-clause-has : goal.returns-in-Ok-clause-has
returns-in-Ok-clause-has g c = λ start rows has.
    let kind = kind_of g.G.Stage.state g.G.Stage.ended in
    c.in-Ok.ensures.text true c.in-Standard.standard.names rows (standard_at kind start) (text_had kind c.args.self.now c.in-Standard.standard c.in-Standard.is c.args.stage.now c.row.new.stage start rows has)

pub returns-in-Ok-clause-little : goal.returns-in-Ok-clause-little
returns-in-Ok-clause-little g c = λ start rows has. c.in-Ok.ensures.small

pub returns-in-Err-clause-purpose : goal.returns-in-Err-clause-purpose
returns-in-Err-clause-purpose g c = standard_same (kind_of g.G.Stage.state g.G.Stage.ended) c.args.self.now c.in-Standard.standard c.in-Standard.is c.args.stage.now c.row.new.stage (record c.in-Standard.standard { text = c.row.new.self }) (same_text c.row.new.self.shape c.in-Standard.standard.text.shape c.row.ensures.format c.row.ensures.at_once) refl

pub returns-in-Err-clause-stop : goal.returns-in-Err-clause-stop
returns-in-Err-clause-stop g c = λ start rows more has.
    let kind = kind_of g.G.Stage.state g.G.Stage.ended in
    let old = c.in-Standard.standard in
    text_stops kind c.args.self.now old c.in-Standard.is c.args.stage.now c.row.new.stage start (rows ++ (c.args.row.now ∷ more))
    (c.in-Err.ensures.front true old.names rows more (standard_at kind start) (text_had kind c.args.self.now old c.in-Standard.is c.args.stage.now c.row.new.stage start rows has))

pub returns-in-Err-clause-refused : goal.returns-in-Err-clause-refused
returns-in-Err-clause-refused g c =
    told_put (λ (why : Refused). (start : _) (rows more : List Row) → HasSinkRows (kind_of g.G.Stage.state g.G.Stage.ended) c.args.self.now start rows c.args.stage.now → IsRefusedAt (files_in c.args.self.now) (rows ++ (c.args.row.now ∷ more)) why)
    c.put_fault.result c.in-Err.fault c.put_fault.ensures

pub returns-in-Err-clause-failed : goal.returns-in-Err-clause-failed
returns-in-Err-clause-failed g c = failed_put c.put_fault.result c.in-Err.fault _ c.put_fault.ensures c.in-Err.ensures.failed

pub returns-in-Files-clause-purpose : goal.returns-in-Files-clause-purpose
returns-in-Files-clause-purpose g c = files_same (kind_of g.G.Stage.state g.G.Stage.ended) c.args.self.now c.in-Files.files c.in-Files.is c.args.stage.now c.put.new.stage c.put.new.self c.put.ensures.same

pub returns-in-Files-clause-has : goal.returns-in-Files-clause-has
returns-in-Files-clause-has g c = files_have (kind_of g.G.Stage.state g.G.Stage.ended) c.args.self.now c.in-Files.files c.in-Files.is c.args.stage.now c.put.new.stage c.put.result c.put.new.self (λ rows. rows ++ c.args.row.now ∷ []) c.put.ensures.has

pub returns-in-Files-clause-stop : goal.returns-in-Files-clause-stop
returns-in-Files-clause-stop g c = files_stop_in (kind_of g.G.Stage.state g.G.Stage.ended) c.args.self.now c.in-Files.files c.in-Files.is c.args.stage.now c.put.new.stage c.put.result (λ rows more. rows ++ (c.args.row.now ∷ more)) c.put.ensures.stop

pub returns-in-Files-clause-refused : goal.returns-in-Files-clause-refused
returns-in-Files-clause-refused g c = files_refuse_in (kind_of g.G.Stage.state g.G.Stage.ended) c.args.self.now c.in-Files.files c.in-Files.is c.args.stage.now c.put.new.stage c.put.result (λ rows more. rows ++ (c.args.row.now ∷ more)) c.put.ensures.refused

pub returns-in-Files-clause-little : goal.returns-in-Files-clause-little
returns-in-Files-clause-little g c = files_little (kind_of g.G.Stage.state g.G.Stage.ended) c.args.self.now c.in-Files.files c.in-Files.is c.args.stage.now c.put.new.stage c.put.result c.put.new.self c.put.ensures.small
