use Rattle.std.proofs.Common.{◌≡◌, length}
use Rattle.std.proofs.lemmas.Result.{IfOk-weaker, IfErr-weaker, on_err_weaker}
use Rattle.lp_model.proofs.Results.{on_err}
use Rattle.log_reading.proofs.Faults.{handed_on}
use Rattle.text_output.specs.Output.{kind_of}
use Rattle.row_output.specs.Asked.{left_of}
use Rattle.row_output.specs.Rows.{Holds, Stops}
use Rattle.row_steps.proofs.Ends.{ends_with, stops_within, refused_within, stops_before, refused_end}
use Rattle.row_steps.proofs.finishing.finish_groups.Goals as goal

pub returns-in_default-clause-stops : goal.returns-in_default-clause-stops
returns-in_default-clause-stops g c = λ start has.
    stops_before (kind_of g.G.Stage.state g.G.Stage.ended) c.args.rows.now.plan.plan c.args.rows.now.groups c.args.output.now start c.args.stage.now has

pub returns-in_err-put_groups-clause-stops : goal.returns-in_err-put_groups-clause-stops
returns-in_err-put_groups-clause-stops g c = on_err _ c.from_residual.result
    (stops_within (kind_of g.G.Stage.state g.G.Stage.ended) c.args.rows.now.plan.plan c.args.rows.now.groups c.in-Ok.groups c.args.output.now c.args.stage.now _ c.put_groups.new.stage c.in-Ok.ensures c.in_err-put_groups.ensures.stops)

pub returns-in_err-put_groups-clause-refused : goal.returns-in_err-put_groups-clause-refused
returns-in_err-put_groups-clause-refused g c = handed_on c.from_residual.result _ _ c.from_residual.ensures.1
    (refused_within (kind_of g.G.Stage.state g.G.Stage.ended) c.args.rows.now.plan.plan c.args.rows.now.groups c.in-Ok.groups c.args.output.now c.args.stage.now _ c.put_groups.new.stage c.in-Ok.ensures c.in_err-put_groups.ensures.stops)

pub returns-clause-holds : goal.returns-clause-holds
returns-clause-holds g c =
    let kind = kind_of g.G.Stage.state g.G.Stage.ended in
    IfOk-weaker c.finish.result _ _ (λ finished holds.
    ends_with kind c.args.rows.now.plan.plan c.args.rows.now.groups c.in-Ok.groups c.args.output.now c.args.stage.now (λ asked start out. Holds kind asked start out finished.outputs c.finish.new.stage)
    c.put_groups.new.output c.put_groups.new.stage c.in-Ok.ensures c.in_ok-put_groups.ensures.puts holds) c.finish.ensures.hold

pub returns-clause-rows : goal.returns-clause-rows
returns-clause-rows g c =
    let kind = kind_of g.G.Stage.state g.G.Stage.ended in
    IfOk-weaker c.finish.result _ _ (λ finished rows.
    ends_with kind c.args.rows.now.plan.plan c.args.rows.now.groups c.in-Ok.groups c.args.output.now c.args.stage.now (λ asked start out. finished.rows ≡ length (left_of asked out))
    c.put_groups.new.output c.put_groups.new.stage c.in-Ok.ensures c.in_ok-put_groups.ensures.puts rows) c.finish.ensures.rows

pub returns-clause-stops : goal.returns-clause-stops
returns-clause-stops g c =
    let kind = kind_of g.G.Stage.state g.G.Stage.ended in
    on_err_weaker c.finish.result (λ stop.
    ends_with kind c.args.rows.now.plan.plan c.args.rows.now.groups c.in-Ok.groups c.args.output.now c.args.stage.now (λ asked start out. Stops kind asked start out c.finish.new.stage)
    c.put_groups.new.output c.put_groups.new.stage c.in-Ok.ensures c.in_ok-put_groups.ensures.puts stop) c.finish.ensures.stop

pub returns-clause-refused : goal.returns-clause-refused
returns-clause-refused g c =
    let kind = kind_of g.G.Stage.state g.G.Stage.ended in
    IfErr-weaker c.finish.result _ _ (λ fault refused.
    refused_end kind c.args.rows.now.plan.plan c.args.rows.now.groups c.in-Ok.groups c.args.output.now c.put_groups.new.output c.args.stage.now c.put_groups.new.stage fault c.in-Ok.ensures c.in_ok-put_groups.ensures.puts refused) c.finish.ensures.refused
