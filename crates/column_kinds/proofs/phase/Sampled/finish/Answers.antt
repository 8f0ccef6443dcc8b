use Rattle.std.proofs.Common.{◌≡◌, refl}
use Rattle.column_kinds.specs.declared.maker.Stop.{Stop}
use Rattle.column_kinds.specs.Laws.{later_same}
use Rattle.column_kinds.specs.Past.{Past, Later}
use Rattle.column_kinds.specs.Sampling.{Rules, Asks, Begun, Holds, IsStop, KeepsRecords, kind_of, told_by}
use Rattle.column_kinds.proofs.Answered.{if_err, if_ok}
use Rattle.column_kinds.proofs.Records.{phase_is}
use Rattle.column_kinds.proofs.phase.Sampled.finish.Goals as goal

pub returns-in-Gathering-clause-begun : goal.returns-in-Gathering-clause-begun
returns-in-Gathering-clause-begun g c =
    let kind = kind_of g.M.Maker.makes g.M.Maker.refuses g.T.Taker.takes g.T.Taker.stops in
    let v = c.begin.new.out in
    if_ok (λ (taker : g.row.T.Denot). (rules : Rules g.row.M.Denot) (start : g.row.O.Denot) (past : Past) → Asks c.args.self.limit c.args.self.pattern.now rules → KeepsRecords rules start past c.in-Gathering.gathering c.args.out.now → Begun kind rules start past taker v)
    (λ (taker : g.row.T.Denot). (rules : Rules g.row.M.Denot) (start : g.row.O.Denot) (past : Past) → Holds kind rules start past c.args.self c.args.out.now → Begun kind rules start past taker v)
    c.begin.result
    (λ taker begun rules start past holds. begun rules start past holds.asks (phase_is kind rules start c.args.out.now past c.args.self _ c.in-Gathering.is holds).kept)
    c.begin.ensures.begun

pub returns-in-Gathering-clause-stopped : goal.returns-in-Gathering-clause-stopped
returns-in-Gathering-clause-stopped g c =
    let kind = kind_of g.M.Maker.makes g.M.Maker.refuses g.T.Taker.takes g.T.Taker.stops in
    let v = c.begin.new.out in
    if_err (λ (stop : Stop g.row.T.Denot). (rules : Rules g.row.M.Denot) (start : g.row.O.Denot) (past later : Past) → Asks c.args.self.limit c.args.self.pattern.now rules → KeepsRecords rules start past c.in-Gathering.gathering c.args.out.now → Later past later → told_by rules later ≡ told_by rules past → IsStop kind rules start later stop v)
    (λ (stop : Stop g.row.T.Denot). (rules : Rules g.row.M.Denot) (start : g.row.O.Denot) (past : Past) → Holds kind rules start past c.args.self c.args.out.now → IsStop kind rules start past stop v)
    c.begin.result
    (λ stop stopped rules start past holds. stopped rules start past past holds.asks (phase_is kind rules start c.args.out.now past c.args.self _ c.in-Gathering.is holds).kept (later_same past) refl)
    c.begin.ensures.stopped
