use Rattle.std.proofs.Common.{sym, ◌∙◌, ap, subst}
use Rattle.column_kinds.specs.Sampling.{IsStop, PhaseHolds, PhaseStopped, kind_of}
use Rattle.column_kinds.specs.Phases.{taken_in}
use Rattle.column_kinds.specs.declared.maker.Stop.{Stop}
use Rattle.column_kinds.specs.declared.phase.Phase.{Phase}
use Rattle.column_kinds.proofs.Beginnings.{keeps_front, turned, turn_stopped}
use Rattle.column_kinds.proofs.turning.turn.Goals as goal

pub returns-in-Ok-clause-turned : goal.returns-in-Ok-clause-turned
returns-in-Ok-clause-turned g c = λ rules start past asks holds told.
    let kind = kind_of g.M.Maker.makes g.M.Maker.refuses g.T.Taker.takes g.T.Taker.stops in
    let v = c.begin.new.out in
    subst (λ (p : Phase g.row.M.Denot g.row.T.Denot). PhaseHolds kind rules start past p v) (sym c.set_phase.ensures)
    (turned kind c.args.limit c.args.pattern.now c.args.phase.now c.in-Some.gathering c.in-Ok.taker c.args.out.now v c.in-Some.ensures.some c.in-Ok.ensures.begun rules start past asks holds told)

pub returns-in-Err-Refused-clause-stopped : goal.returns-in-Err-Refused-clause-stopped
returns-in-Err-Refused-clause-stopped g c = λ rules start past later asks holds told follows.
    let kind = kind_of g.M.Maker.makes g.M.Maker.refuses g.T.Taker.takes g.T.Taker.stops in
    let v = c.begin.new.out in
    subst (λ (p : Phase g.row.M.Denot g.row.T.Denot). PhaseStopped kind rules start later p v) (sym c.set_phase-in-Err-Refused.ensures) (subst (λ (stop : Stop g.row.T.Denot). IsStop kind rules start later stop v) c.in-Err-Refused.field-0-is
    (turn_stopped kind c.args.limit c.args.pattern.now c.args.phase.now c.in-Some.gathering c.in-Err-Refused.field-0 c.args.out.now v c.in-Some.ensures.some c.in-Err-Refused.ensures.stopped rules start past later asks holds told follows))

pub returns-in-Err-Stopped-clause-stopped : goal.returns-in-Err-Stopped-clause-stopped
returns-in-Err-Stopped-clause-stopped g c = λ rules start past later asks holds told follows.
    let kind = kind_of g.M.Maker.makes g.M.Maker.refuses g.T.Taker.takes g.T.Taker.stops in
    let v = c.begin.new.out in
    subst (λ (p : Phase g.row.M.Denot g.row.T.Denot). PhaseStopped kind rules start later p v) (sym c.set_phase-in-Err-Stopped.ensures) (subst (λ (stop : Stop g.row.T.Denot). IsStop kind rules start later stop v) c.in-Err-Stopped.field-0-is
    (turn_stopped kind c.args.limit c.args.pattern.now c.args.phase.now c.in-Some.gathering c.in-Err-Stopped.field-0 c.args.out.now v c.in-Some.ensures.some c.in-Err-Stopped.ensures.stopped rules start past later asks holds told follows))

pub returns-in-Err-Failed-clause-stopped : goal.returns-in-Err-Failed-clause-stopped
returns-in-Err-Failed-clause-stopped g c = λ rules start past later asks holds told follows.
    let kind = kind_of g.M.Maker.makes g.M.Maker.refuses g.T.Taker.takes g.T.Taker.stops in
    let v = c.begin.new.out in
    subst (λ (p : Phase g.row.M.Denot g.row.T.Denot). PhaseStopped kind rules start later p v) (sym c.take_gathering.ensures.lost) (subst (λ (stop : Stop g.row.T.Denot). IsStop kind rules start later stop v) c.in-Err-Failed.field-0-is
    (turn_stopped kind c.args.limit c.args.pattern.now c.args.phase.now c.in-Some.gathering c.in-Err-Failed.field-0 c.args.out.now v c.in-Some.ensures.some c.in-Err-Failed.ensures.stopped rules start past later asks holds told follows))

pub returns-in-Err-Memory-clause-stopped : goal.returns-in-Err-Memory-clause-stopped
returns-in-Err-Memory-clause-stopped g c = λ rules start past later asks holds told follows.
    let kind = kind_of g.M.Maker.makes g.M.Maker.refuses g.T.Taker.takes g.T.Taker.stops in
    let v = c.begin.new.out in
    subst (λ (p : Phase g.row.M.Denot g.row.T.Denot). PhaseStopped kind rules start later p v) (sym c.take_gathering.ensures.lost) (subst (λ (stop : Stop g.row.T.Denot). IsStop kind rules start later stop v) c.in-Err-Memory.field-0-is
    (turn_stopped kind c.args.limit c.args.pattern.now c.args.phase.now c.in-Some.gathering c.in-Err-Memory.field-0 c.args.out.now v c.in-Some.ensures.some c.in-Err-Memory.ensures.stopped rules start past later asks holds told follows))

pub returns-in_default-clause-stopped : goal.returns-in_default-clause-stopped
returns-in_default-clause-stopped g c = λ rules start past later asks holds told follows.
    let kind = kind_of g.M.Maker.makes g.M.Maker.refuses g.T.Taker.takes g.T.Taker.stops in
    let u = c.args.out.now in
    subst (λ (p : Phase g.row.M.Denot g.row.T.Denot). PhaseStopped kind rules start later p u) (sym c.take_gathering.ensures.lost)
    (keeps_front kind rules start u past later c.args.phase.now holds)

pub returns-in-Ok-clause-count : goal.returns-in-Ok-clause-count
returns-in-Ok-clause-count g c =
    ap (λ (p : Phase g.row.M.Denot g.row.T.Denot). taken_in g.T.Taker.count p) c.set_phase.ensures ∙ (c.in-Ok.ensures.count ∙ sym (ap (λ (p : Phase g.row.M.Denot g.row.T.Denot). taken_in g.T.Taker.count p) c.in-Some.ensures.some))
