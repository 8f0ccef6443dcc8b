use Rattle.lp_model.proofs.Results.{on_err}
use Rattle.text_output.specs.Output.{kind_of}
use Rattle.row_output.specs.declared.file_output.FileOutput.TheVariants as O
use Rattle.row_output.proofs.Calls.{handed, put_has, put_little, put_stops, put_refusals, hand_stops}
use Rattle.row_output.proofs.files.FileOutputs.put.Goals as goal

pub returns-in_err-index-clause-stop : goal.returns-in_err-index-clause-stop
returns-in_err-index-clause-stop g c = on_err _ c.from_residual.result (λ start rows more has.
    put_stops (kind_of g.G.Stage.state g.G.Stage.ended) c.args.self.now start rows c.args.row.now c.first_values.result.now more c.args.stage.now c.place.new.stage c.first_values.ensures has
    (c.in_err-index.ensures.stop start rows has))

pub returns-in_err-index-clause-refused : goal.returns-in_err-index-clause-refused
returns-in_err-index-clause-refused g c = handed _ c.from_residual.result c.in_err-index.field-0.0 c.from_residual.ensures.1
    (put_refusals (kind_of g.G.Stage.state g.G.Stage.ended) c.args.self.now c.args.row.now c.first_values.result.now c.args.stage.now c.in_err-index.field-0.0 c.first_values.ensures c.in_err-index.ensures.refused)

pub returns-in-Ok-clause-small : goal.returns-in-Ok-clause-small
returns-in-Ok-clause-small g c = λ start rows has.
    let placed = c.in_ok-index.ensures in
    let takes = c.in-Ok.ensures.takes in
    put_little (kind_of g.G.Stage.state g.G.Stage.ended) c.args.self.now c.place.new.self start rows c.args.row.now c.first_values.result.now c.args.stage.now c.place.new.stage
    c.in_ok-index.index takes.0 placed.front.0 c.hand.new.self.files.items c.first_values.ensures placed.names placed.named placed.there (placed.has start rows has) placed.front.1 takes.1 takes.3 has

pub returns-in-Ok-clause-has : goal.returns-in-Ok-clause-has
returns-in-Ok-clause-has g c = λ start rows has.
    let placed = c.in_ok-index.ensures in
    let handed = c.in-Ok.ensures in
    let little = put_little (kind_of g.G.Stage.state g.G.Stage.ended) c.args.self.now c.place.new.self start rows c.args.row.now c.first_values.result.now c.args.stage.now c.place.new.stage
    c.in_ok-index.index handed.takes.0 placed.front.0 c.hand.new.self.files.items c.first_values.ensures placed.names placed.named placed.there (placed.has start rows has) placed.front.1 handed.takes.1 handed.takes.3 has in
    put_has (kind_of g.G.Stage.state g.G.Stage.ended) c.args.self.now c.place.new.self c.hand.new.self start rows c.args.row.now c.first_values.result.now c.args.stage.now c.place.new.stage c.hand.new.stage
    c.in_ok-index.index handed.takes.0 c.first_values.ensures placed.same.0 placed.names placed.named placed.there (placed.has start rows has)
    handed.same.0 handed.same.1 handed.same.2 handed.same.3 handed.takes.1 handed.takes.2 little has

pub returns-in-Err-clause-stop : goal.returns-in-Err-clause-stop
returns-in-Err-clause-stop g c = λ start rows more has.
    let placed = c.in_ok-index.ensures in
    hand_stops (kind_of g.G.Stage.state g.G.Stage.ended) c.args.self.now c.place.new.self start rows c.args.row.now c.first_values.result.now more c.args.stage.now c.place.new.stage c.hand.new.stage
    c.in_ok-index.index O.LeftAlone c.first_values.ensures placed.same.0 placed.names placed.named placed.there (placed.has start rows has) (c.in-Err.ensures.spares O.LeftAlone) has
