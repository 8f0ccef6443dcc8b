use Rattle.std.proofs.Common.{◌≡◌, [], Err, ap, sym, ◌∙◌, refl, subst}
use Rattle.log_reading.specs.declared.taker.TakeFault.TheVariants as T
use Rattle.text_output.specs.Output.{kind_of}
use Rattle.row_output.specs.Asked.{Asked}
use Rattle.row_output.specs.Rows.{IsRefused}
use Rattle.query_run.proofs.Puts.{opens_as, stops_as}
use Rattle.query_run.proofs.Reasons.{take_failed, take_stopped}
use Rattle.query_run.proofs.writer.Writer.pass_on.Goals as goal

pub returns-in-Ok-clause-takes : goal.returns-in-Ok-clause-takes
returns-in-Ok-clause-takes g c = opens_as (kind_of g.G.Stage.state g.G.Stage.ended) c.args.self.now _ c.args.stage.now c.hand_on.new.stage c.in-Ok.ensures.has c.hand_on.ensures.asked refl refl (λ is_open. is_open)
    (λ start rows has named is_open why refused. named is_open why (subst (λ (asked : Asked). IsRefused asked [] why) c.hand_on.ensures.asked refused))

pub returns-in-Err-clause-stops : goal.returns-in-Err-clause-stops
returns-in-Err-clause-stops g c = stops_as (kind_of g.G.Stage.state g.G.Stage.ended) [] c.args.self.now _ c.args.stage.now c.hand_on.new.stage c.in-Err.fault c.in-Err.ensures.stop c.in-Err.ensures.refused c.in-Err.ensures.early c.told.ensures.refused

pub returns-in-Err-clause-failed : goal.returns-in-Err-clause-failed
returns-in-Err-clause-failed g c = λ e.
    let is : c.told.result ≡ T.Failed = cc in
    c.in-Err.ensures.failed (ap (λ f. Err f) (take_failed c.in-Err.fault (sym c.told.ensures.fault ∙ is)))

pub returns-in-Err-clause-stopped : goal.returns-in-Err-clause-stopped
returns-in-Err-clause-stopped g c = λ e.
    let is : c.told.result ≡ T.Stopped = cc in
    take_stopped c.args.self.now.refused c.in-Err.fault c.told.new.refused c.told.ensures.refused (sym c.told.ensures.fault ∙ is)
