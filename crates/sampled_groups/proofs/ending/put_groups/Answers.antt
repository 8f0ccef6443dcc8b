use Rattle.std.proofs.Common.{◌≡◌, length}
use Rattle.text_output.specs.Output.{kind_of}
use Rattle.row_output.specs.Asked.{left_of}
use Rattle.row_output.specs.Rows.{Holds, Stops}
use Rattle.column_kinds.proofs.Answered.{if_ok, if_err, on_err_so}
use Rattle.sampled_groups.proofs.Puts.{opened_ends, opened_refused, unopened_refused, unopened_stops}
use Rattle.sampled_groups.proofs.ending.put_groups.Goals as goal

pub returns-in-Ok-clause-holds : goal.returns-in-Ok-clause-holds
returns-in-Ok-clause-holds g c =
    let kind = kind_of g.G.Stage.state g.G.Stage.ended in
    let rows = c.args.rows.now in
    if_ok _ _ c.finish_groups.result (λ finished ends.
    opened_ends kind rows.plan.plan rows.groups c.args.output.now c.open.new.self c.args.stage.now c.open.new.stage (λ asked start out. Holds kind asked start out finished.outputs c.finish_groups.new.stage) c.open.ensures.asked c.in-Ok.ensures.has ends) c.finish_groups.ensures.holds

pub returns-in-Ok-clause-rows : goal.returns-in-Ok-clause-rows
returns-in-Ok-clause-rows g c =
    let kind = kind_of g.G.Stage.state g.G.Stage.ended in
    let rows = c.args.rows.now in
    if_ok _ _ c.finish_groups.result (λ finished ends.
    opened_ends kind rows.plan.plan rows.groups c.args.output.now c.open.new.self c.args.stage.now c.open.new.stage (λ asked start out. finished.rows ≡ length (left_of asked out)) c.open.ensures.asked c.in-Ok.ensures.has ends) c.finish_groups.ensures.rows

pub returns-in-Ok-clause-stops : goal.returns-in-Ok-clause-stops
returns-in-Ok-clause-stops g c =
    let kind = kind_of g.G.Stage.state g.G.Stage.ended in
    let rows = c.args.rows.now in
    on_err_so _ _ c.finish_groups.result
    (opened_ends kind rows.plan.plan rows.groups c.args.output.now c.open.new.self c.args.stage.now c.open.new.stage (λ asked start out. Stops kind asked start out c.finish_groups.new.stage) c.open.ensures.asked c.in-Ok.ensures.has) c.finish_groups.ensures.stops

pub returns-in-Ok-clause-refused : goal.returns-in-Ok-clause-refused
returns-in-Ok-clause-refused g c =
    let kind = kind_of g.G.Stage.state g.G.Stage.ended in
    let rows = c.args.rows.now in
    if_err _ _ c.finish_groups.result (λ fault refused.
    opened_refused kind rows.plan.plan rows.groups c.args.output.now c.open.new.self c.args.stage.now c.open.new.stage fault c.open.ensures.asked c.in-Ok.ensures.has refused) c.finish_groups.ensures.refused

pub returns-in-Err-clause-stops : goal.returns-in-Err-clause-stops
returns-in-Err-clause-stops g c =
    let rows = c.args.rows.now in
    unopened_stops (kind_of g.G.Stage.state g.G.Stage.ended) rows.plan.plan rows.groups c.args.output.now c.args.stage.now c.open.new.stage c.in-Err.ensures.stop

pub returns-in-Err-clause-refused : goal.returns-in-Err-clause-refused
returns-in-Err-clause-refused g c =
    let rows = c.args.rows.now in
    unopened_refused (kind_of g.G.Stage.state g.G.Stage.ended) rows.plan.plan rows.groups c.args.output.now c.args.stage.now c.open.new.stage c.in-Err.fault c.in-Err.ensures.refused
