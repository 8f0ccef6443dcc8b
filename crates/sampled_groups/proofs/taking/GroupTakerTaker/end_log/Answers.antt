use Rattle.std.proofs.Common.{[], refl}
use Rattle.text_output.specs.Output.{kind_of}
use Rattle.column_kinds.proofs.Answered.{on_err_so, on_ok}
use Rattle.sampled_groups.specs.Taking.{none_taken}
use Rattle.sampled_groups.proofs.Opens.{gathers_on, stops_on}
use Rattle.sampled_groups.proofs.taking.GroupTakerTaker.end_log.Goals as goal

pub returns-clause-takes : goal.returns-clause-takes
returns-clause-takes g c = on_ok _ _ c.end_log.result (λ gathers. gathers_on (kind_of g.G.Stage.state g.G.Stage.ended) c.args.self.now _ c.args.stage.now c.end_log.new.stage [] tt refl refl refl gathers) c.end_log.ensures.takes

pub returns-clause-stops : goal.returns-clause-stops
returns-clause-stops g c =
    let kind = kind_of g.G.Stage.state g.G.Stage.ended in
    on_err_so _ _ c.end_log.result (λ same. stops_on kind c.args.self.now c.args.self.now _ c.args.stage.now c.args.stage.now c.end_log.new.stage (none_taken kind c.args.self.now c.args.stage.now) refl same) c.end_log.ensures.stops
