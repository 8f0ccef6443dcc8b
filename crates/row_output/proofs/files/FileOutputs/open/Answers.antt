use Rattle.std.proofs.Common.{◌++◌, arith}
use Rattle.lp_model.proofs.Results.{on_err}
use Rattle.text_output.specs.Output.{kind_of}
use Rattle.row_output.proofs.Calls.{handed, open_all_named, open_has, open_stops, open_refusals}
use Rattle.row_output.proofs.files.FileOutputs.open.Goals as goal

pub returns-clause-all : goal.returns-clause-all
returns-clause-all g c = λ start rows has.
    let placed = c.in_ok-place.ensures in
    open_all_named (kind_of g.G.Stage.state g.G.Stage.ended) c.args.self.now c.place.new.self start rows c.args.stage.now (omega arith) placed.same.0 placed.names has

pub returns-clause-has : goal.returns-clause-has
returns-clause-has g c = λ start rows has.
    let placed = c.in_ok-place.ensures in
    open_has (kind_of g.G.Stage.state g.G.Stage.ended) c.args.self.now c.place.new.self start rows c.args.stage.now c.place.new.stage (omega arith) placed.same.0 placed.names (placed.has start rows has) placed.front.0 placed.front.1 has

pub returns-in_err-place-clause-stop : goal.returns-in_err-place-clause-stop
returns-in_err-place-clause-stop g c = on_err _ c.from_residual.result (λ start rows more has.
    open_stops (kind_of g.G.Stage.state g.G.Stage.ended) c.args.self.now start rows (rows ++ more) c.args.stage.now c.place.new.stage (omega arith) has (c.in_err-place.ensures.stop start rows has))

pub returns-in_err-place-clause-refused : goal.returns-in_err-place-clause-refused
returns-in_err-place-clause-refused g c = handed _ c.from_residual.result c.in_err-place.field-0.0 c.from_residual.ensures.1
    (open_refusals (kind_of g.G.Stage.state g.G.Stage.ended) c.args.self.now c.args.stage.now c.in_err-place.field-0.0 (omega arith) c.in_err-place.ensures.refused)
