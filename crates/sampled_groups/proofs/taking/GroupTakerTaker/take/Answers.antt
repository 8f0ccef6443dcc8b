use Rattle.std.proofs.Common.{[], ◌∷◌, refl}
use Rattle.lp_model.specs.Reading.{records_read, rows}
use Rattle.lp_model.proofs.Results.{on_err}
use Rattle.line_input.specs.Taken.{slots_of}
use Rattle.log_reading.specs.Found.{met_of}
use Rattle.text_output.specs.Output.{kind_of}
use Rattle.column_kinds.proofs.Answered.{on_err_so, on_ok}
use Rattle.sampled_groups.proofs.Opens.{stops_on, takes_on}
use Rattle.sampled_groups.proofs.taking.GroupTakerTaker.take.Goals as goal

pub returns-in_err-open-clause-stops : goal.returns-in_err-open-clause-stops
returns-in_err-open-clause-stops g c = on_err _ c.from_residual.result c.in_err-open.ensures.stops

pub returns-clause-takes : goal.returns-clause-takes
returns-clause-takes g c = on_ok _ _ c.take.result (λ gathers. takes_on (kind_of g.G.Stage.state g.G.Stage.ended) c.args.self.now c.open.new.self _ c.args.stage.now c.open.new.stage c.take.new.stage (met_of c.args.identity.now (records_read c.args.number c.args.columns.now (rows (slots_of c.args.line.now c.args.fields.now ∷ [])))) c.in_ok-open.ensures.takes c.in_ok-open.ensures.opened refl refl refl gathers) c.take.ensures.takes

pub returns-clause-stops : goal.returns-clause-stops
returns-clause-stops g c = on_err_so _ _ c.take.result (λ same. stops_on (kind_of g.G.Stage.state g.G.Stage.ended) c.args.self.now c.open.new.self _ c.args.stage.now c.open.new.stage c.take.new.stage c.in_ok-open.ensures.takes refl same) c.take.ensures.stops
