use Rattle.std.proofs.Common.{[], refl}
use Rattle.std.proofs.lemmas.Result.{on_ok_weaker, on_err_weaker}
use Rattle.lp_model.proofs.Results.{on_err}
use Rattle.text_output.specs.Output.{kind_of}
use Rattle.query_run.specs.Writing.{puts_on}
use Rattle.query_run.proofs.Puts.{puts_as, writes_behind, writes_no_row, writes_row, halts_row, halts_at_once, halts_there}
use Rattle.query_run.proofs.writing.WriterTaker.take.Goals as goal

pub returns-in_err-open-clause-stops : goal.returns-in_err-open-clause-stops
returns-in_err-open-clause-stops g c = on_err _ c.from_residual.result
    (halts_at_once (kind_of g.G.Stage.state g.G.Stage.ended) g.P.Picker.picks c.args.self.now _ c.args.stage.now _ _ c.in_err-open.ensures.stops)

pub returns-in-Ok-clause-takes : goal.returns-in-Ok-clause-takes
returns-in-Ok-clause-takes g c =
    let kind = kind_of g.G.Stage.state g.G.Stage.ended in
    writes_behind kind g.P.Picker.picks c.args.self.now c.open.new.self _ c.args.stage.now c.open.new.stage _ _ c.in_ok-open.ensures.opened c.in_ok-open.ensures.takes c.in-Ok.ensures.takes

pub returns-in-Err-clause-stops : goal.returns-in-Err-clause-stops
returns-in-Err-clause-stops g c =
    let kind = kind_of g.G.Stage.state g.G.Stage.ended in
    halts_there kind g.P.Picker.picks c.args.self.now _ c.args.stage.now _ _ (puts_on kind [] [] c.args.self.now c.open.new.self _ c.args.stage.now c.open.new.stage _ c.in_ok-open.ensures.takes c.in-Err.ensures.err)

pub returns-in-Err-picked-clause-stops : goal.returns-in-Err-picked-clause-stops
returns-in-Err-picked-clause-stops g c =
    let kind = kind_of g.G.Stage.state g.G.Stage.ended in
    halts_there kind g.P.Picker.picks c.args.self.now _ c.args.stage.now _ _ (puts_as kind _ c.args.self.now c.open.new.self _ c.args.stage.now c.open.new.stage refl refl refl refl c.in_ok-open.ensures.takes)

pub returns-in-Ok-false-clause-takes : goal.returns-in-Ok-false-clause-takes
returns-in-Ok-false-clause-takes g c =
    let kind = kind_of g.G.Stage.state g.G.Stage.ended in
    writes_no_row kind g.P.Picker.picks c.args.self.now _ c.args.stage.now c.open.new.stage _ (rw c.in-Ok-false.field-0-test at c.in-Ok-false.ensures) c.in_ok-open.ensures.opened
    (puts_as kind _ c.args.self.now c.open.new.self _ c.args.stage.now c.open.new.stage refl refl refl refl c.in_ok-open.ensures.takes)

pub returns-in-Ok-true-clause-takes : goal.returns-in-Ok-true-clause-takes
returns-in-Ok-true-clause-takes g c =
    let kind = kind_of g.G.Stage.state g.G.Stage.ended in
    on_ok_weaker c.put.result (λ puts. writes_row kind g.P.Picker.picks c.args.self.now _ c.put.new.self c.args.stage.now c.open.new.stage c.put.new.stage _ c.pick-picked.new.row (rw c.in-Ok-true.field-0-test at c.in-Ok-true.ensures) c.in_ok-open.ensures.opened
    (puts_as kind _ c.args.self.now c.open.new.self _ c.args.stage.now c.open.new.stage refl refl refl refl c.in_ok-open.ensures.takes) puts) c.put.ensures.takes

pub returns-in-Ok-true-clause-stops : goal.returns-in-Ok-true-clause-stops
returns-in-Ok-true-clause-stops g c =
    let kind = kind_of g.G.Stage.state g.G.Stage.ended in
    on_err_weaker c.put.result (λ stops. halts_row kind g.P.Picker.picks c.args.self.now _ c.put.new.self c.args.stage.now c.open.new.stage c.put.new.stage _ c.pick-picked.new.row (rw c.in-Ok-true.field-0-test at c.in-Ok-true.ensures)
    (puts_as kind _ c.args.self.now c.open.new.self _ c.args.stage.now c.open.new.stage refl refl refl refl c.in_ok-open.ensures.takes) stops) c.put.ensures.stops
