use Rattle.std.proofs.Common.{true, List, [], ◌∷◌, ◌++◌, ap, ◌∙◌}
use Rattle.text_output.specs.Output.{kind_of}
use Rattle.text_output.specs.declared.target.Output.{Output}
use Rattle.row_output.specs.declared.fault.Refused.{Refused}
use Rattle.row_output.specs.Rows.{standard_at}
use Rattle.row_output.proofs.SinkCalls.{standard_ends, standard_stops, whole_stops, told_put, failed_put}
use Rattle.row_output.proofs.sink.end_standard.Goals as goal

pub returns-in-Err-clause-stop : goal.returns-in-Err-clause-stop
returns-in-Err-clause-stop g c = λ start rows has. standard_stops (kind_of g.G.Stage.state g.G.Stage.ended) c.args.standard.now start rows c.args.stage.now has

pub returns-in-Ok-push-clause-hold : goal.returns-in-Ok-push-clause-hold
returns-in-Ok-push-clause-hold g c = λ start rows has.
    let kind = kind_of g.G.Stage.state g.G.Stage.ended in
    let s = c.args.standard.now in
    let output = c.in-Ok-end.output in
    standard_ends kind s start rows output c.push.new.self c.end.new.stage (c.in-Ok-push.ensures.ok ∙ ap (λ (l : List Output). l ++ output ∷ []) c.in-Ok.ensures)
    (c.in-Ok-end.ensures.text true s.names rows (standard_at kind start) has) c.in-Ok-end.ensures.ended

pub returns-in-Err-push-clause-stop : goal.returns-in-Err-push-clause-stop
returns-in-Err-push-clause-stop g c = λ start rows has.
    let kind = kind_of g.G.Stage.state g.G.Stage.ended in
    let s = c.args.standard.now in
    whole_stops kind s start rows c.in-Ok-end.output c.end.new.stage (c.in-Ok-end.ensures.text true s.names rows (standard_at kind start) has)

pub returns-in-Err-end-clause-stop : goal.returns-in-Err-end-clause-stop
returns-in-Err-end-clause-stop g c = λ start rows has. c.in-Err-end.ensures.front true c.args.standard.now.names rows (standard_at (kind_of g.G.Stage.state g.G.Stage.ended) start) has

pub returns-in-Err-end-clause-failed : goal.returns-in-Err-end-clause-failed
returns-in-Err-end-clause-failed g c = failed_put c.put_fault.result c.in-Err-end.fault _ c.put_fault.ensures c.in-Err-end.ensures.failed

pub returns-in-Err-end-clause-unrefused : goal.returns-in-Err-end-clause-unrefused
returns-in-Err-end-clause-unrefused g c = told_put (λ (why : Refused). ⊥) c.put_fault.result c.in-Err-end.fault c.put_fault.ensures
