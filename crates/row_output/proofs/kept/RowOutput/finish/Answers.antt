use Rattle.std.proofs.Common.{◌≡◌, List, refl, sym, subst}
use Rattle.lp_model.proofs.Results.{on_err}
use Rattle.order_top.specs.Finish.{Row, Finish, finished}
use Rattle.text_output.specs.Output.{kind_of}
use Rattle.row_output.specs.declared.fault.Refused.{Refused}
use Rattle.row_output.specs.declared.kept.Kept.{Kept}
use Rattle.row_output.specs.Kept.{HasKept, HasRows, asked_of}
use Rattle.row_output.specs.Rows.{IsRefused, IsRefusedAt}
use Rattle.row_output.specs.Sinks.{HasSinkRows, files_in}
use Rattle.row_output.proofs.KeptCalls.{kept_as, rows_stop_at, rows_refused, rows_hold, rows_left}
use Rattle.row_output.proofs.SinkCalls.{refused_on, stops_alike, refused_alike, holds_alike}
use Rattle.row_output.proofs.kept.RowOutput.finish.Goals as goal

pub returns-in_err-rows-clause-stop : goal.returns-in_err-rows-clause-stop
returns-in_err-rows-clause-stop g c =
    let kind = kind_of g.G.Stage.state g.G.Stage.ended in
    let o = c.args.self.now in
    on_err _ c.from_residual.result (λ start rows has.
    rows_stop_at kind o c.args.stage.now c.pass.new.stage start rows rows
    (λ kept. c.in_err-rows.ensures.stop o.order start rows (kept_as kind o.kept c.replace-kept.result o.order o.sink start rows c.args.stage.now c.replace-kept.ensures.value kept)) has)

pub returns-in_err-rows-clause-refused : goal.returns-in_err-rows-clause-refused
returns-in_err-rows-clause-refused g c =
    let kind = kind_of g.G.Stage.state g.G.Stage.ended in
    let o = c.args.self.now in
    refused_on (λ (why : Refused). (order : Finish) (start : _) (rows : List Row) → HasKept kind c.replace-kept.result order o.sink start rows c.args.stage.now → IsRefusedAt (files_in o.sink) (finished order rows) why)
    (λ (why : Refused). (start : _) (rows : List Row) → HasRows kind o start rows c.args.stage.now → IsRefused (asked_of o) rows why)
    c.from_residual.result _ c.from_residual.ensures.1
    (λ why so start rows has. rows_refused kind o c.args.stage.now c.pass.new.stage start rows rows why
    (λ kept. so o.order start rows (kept_as kind o.kept c.replace-kept.result o.order o.sink start rows c.args.stage.now c.replace-kept.ensures.value kept)) has)
    c.in_err-rows.ensures.refused

pub returns-in_err-outputs-clause-stop : goal.returns-in_err-outputs-clause-stop
returns-in_err-outputs-clause-stop g c =
    let kind = kind_of g.G.Stage.state g.G.Stage.ended in
    let o = c.args.self.now in
    let s = c.pass.new.sink in
    on_err _ c.from_residual-in_err-outputs.result (λ start rows has.
    rows_stop_at kind o c.args.stage.now c.end.new.stage start rows rows
    (λ kept. stops_alike kind s o.sink start (finished o.order rows) c.end.new.stage c.pass.ensures.purpose
    (c.in_err-outputs.ensures.stop start (finished o.order rows)
    (c.in_ok-rows.ensures.has o.order start rows (kept_as kind o.kept c.replace-kept.result o.order o.sink start rows c.args.stage.now c.replace-kept.ensures.value kept)))) has)

pub returns-in_err-outputs-clause-refused : goal.returns-in_err-outputs-clause-refused
returns-in_err-outputs-clause-refused g c =
    let kind = kind_of g.G.Stage.state g.G.Stage.ended in
    let o = c.args.self.now in
    let s = c.pass.new.sink in
    refused_on (λ (why : Refused). (start : _) (rows : List Row) → HasSinkRows kind s start rows c.pass.new.stage → IsRefusedAt (files_in s) rows why)
    (λ (why : Refused). (start : _) (rows : List Row) → HasRows kind o start rows c.args.stage.now → IsRefused (asked_of o) rows why)
    c.from_residual-in_err-outputs.result _ c.from_residual-in_err-outputs.ensures.1
    (λ why so start rows has. rows_refused kind o c.args.stage.now c.end.new.stage start rows rows why
    (λ kept. refused_alike s o.sink (finished o.order rows) why c.pass.ensures.purpose
    (so start (finished o.order rows)
    (c.in_ok-rows.ensures.has o.order start rows (kept_as kind o.kept c.replace-kept.result o.order o.sink start rows c.args.stage.now c.replace-kept.ensures.value kept)))) has)
    c.in_err-outputs.ensures.refused

pub returns-clause-hold : goal.returns-clause-hold
returns-clause-hold g c = λ start rows has.
    let kind = kind_of g.G.Stage.state g.G.Stage.ended in
    let o = c.args.self.now in
    let s = c.pass.new.sink in
    rows_hold kind o c.args.stage.now c.end.new.stage start rows c.in_ok-outputs.outputs
    (λ kept. holds_alike kind s o.sink start (finished o.order rows) c.in_ok-outputs.outputs c.end.new.stage c.pass.ensures.purpose
    (c.in_ok-outputs.ensures.hold start (finished o.order rows)
    (c.in_ok-rows.ensures.has o.order start rows (kept_as kind o.kept c.replace-kept.result o.order o.sink start rows c.args.stage.now c.replace-kept.ensures.value kept)))) has

pub returns-clause-rows : goal.returns-clause-rows
returns-clause-rows g c = λ start rows has.
    let kind = kind_of g.G.Stage.state g.G.Stage.ended in
    let o = c.args.self.now in
    rows_left kind o c.args.stage.now c.end.new.stage start rows c.in_ok-rows.rows
    (λ kept put. c.in_ok-rows.ensures.count o.order start rows (kept_as kind o.kept c.replace-kept.result o.order o.sink start rows c.args.stage.now c.replace-kept.ensures.value kept) put) has
