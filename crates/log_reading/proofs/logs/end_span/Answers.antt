use Rattle.std.proofs.Common.{◌∷◌, []}
use Rattle.lp_model.proofs.Results.{on_err_map}
use Rattle.log_reading.specs.Found.{log_ended}
use Rattle.log_reading.proofs.Faults.{on_ok_map}
use Rattle.log_reading.proofs.logs.end_span.Goals as goal

pub returns-in-Ok-clause-takes : goal.returns-in-Ok-clause-takes
returns-in-Ok-clause-takes g c =
    on_ok_map (g.T.Taker.takes c.end_log.new.self c.end_log.new.out [] c.hand_on.new.page.taker c.hand_on.new.out) _ c.hand_on.result
    (λ done. g.met.T.Taker.takes_more c.args.page.now.taker c.end_log.new.self c.hand_on.new.page.taker c.args.out.now c.end_log.new.out c.hand_on.new.out (log_ended c.args.span.now.identity c.args.page.now.standing.columns ∷ []) [] (rw c.columns-columns.ensures at c.in-Ok.ensures.takes) done)
    c.hand_on.ensures.takes

pub returns-in-Ok-clause-stops : goal.returns-in-Ok-clause-stops
returns-in-Ok-clause-stops g c =
    on_err_map (g.T.Taker.stops c.end_log.new.self c.end_log.new.out [] c.hand_on.new.page.taker c.hand_on.new.out) _ c.hand_on.result
    (λ stopped. g.met.T.Taker.stops_later c.args.page.now.taker c.end_log.new.self c.hand_on.new.page.taker c.args.out.now c.end_log.new.out c.hand_on.new.out (log_ended c.args.span.now.identity c.args.page.now.standing.columns ∷ []) [] (rw c.columns-columns.ensures at c.in-Ok.ensures.takes) stopped)
    c.hand_on.ensures.stops
