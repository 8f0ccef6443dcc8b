use Rattle.std.proofs.Common.{sym, subst}
use Rattle.column_kinds.specs.Sampling.{IsStop, kind_of}
use Rattle.column_kinds.specs.declared.maker.Stop.{Stop}
use Rattle.column_kinds.proofs.Beginnings.{begun_is, begun_within, failed_begun, nothing_begun}
use Rattle.column_kinds.proofs.beginning.begin.Goals as goal

pub returns-in-Err-clause-stopped : goal.returns-in-Err-clause-stopped
returns-in-Err-clause-stopped g c = λ rules start past later asks gathers follows stays.
    let kind = kind_of g.M.Maker.makes g.M.Maker.refuses g.T.Taker.takes g.T.Taker.stops in
    subst (λ (stop : Stop g.row.T.Denot). IsStop kind rules start later stop c.args.out.now) (sym c.stop_unmade.ensures)
    (nothing_begun kind c.args.limit c.args.pattern.now c.args.gathering c.in-Err.unmade c.args.out.now c.in-Err.ensures.refuses rules start past later asks gathers stays)

pub returns-in-Ok-give_kept-clause-begun : goal.returns-in-Ok-give_kept-clause-begun
returns-in-Ok-give_kept-clause-begun g c = λ rules start past asks gathers.
    let kind = kind_of g.M.Maker.makes g.M.Maker.refuses g.T.Taker.takes g.T.Taker.stops in
    begun_is kind c.args.limit c.args.pattern.now c.args.gathering c.in-Ok.taker c.give_kept.new.taker c.args.out.now c.give_kept.new.out c.in-Ok.ensures.makes c.in-Ok-give_kept.ensures.takes rules start past asks gathers

pub returns-in-Err-Stopped-clause-stopped : goal.returns-in-Err-Stopped-clause-stopped
returns-in-Err-Stopped-clause-stopped g c = λ rules start past later asks gathers follows stays.
    let kind = kind_of g.M.Maker.makes g.M.Maker.refuses g.T.Taker.takes g.T.Taker.stops in
    begun_within kind (record { takes_more = g.met.T.Taker.takes_more; stops_here = g.met.T.Taker.stops_here; stops_later = g.met.T.Taker.stops_later; stops_more = g.met.T.Taker.stops_more })
    c.args.limit c.args.pattern.now c.args.gathering c.in-Ok.taker c.give_kept.new.taker c.args.out.now c.give_kept.new.out c.in-Ok.ensures.makes c.in-Err-Stopped.ensures.stops rules start past later asks gathers follows stays

pub returns-in-Err-Failed-clause-stopped : goal.returns-in-Err-Failed-clause-stopped
returns-in-Err-Failed-clause-stopped g c = λ rules start past later asks gathers follows stays.
    let kind = kind_of g.M.Maker.makes g.M.Maker.refuses g.T.Taker.takes g.T.Taker.stops in
    failed_begun kind rules start later c.give_kept.new.taker c.give_kept.new.out
    (begun_within kind (record { takes_more = g.met.T.Taker.takes_more; stops_here = g.met.T.Taker.stops_here; stops_later = g.met.T.Taker.stops_later; stops_more = g.met.T.Taker.stops_more })
    c.args.limit c.args.pattern.now c.args.gathering c.in-Ok.taker c.give_kept.new.taker c.args.out.now c.give_kept.new.out c.in-Ok.ensures.makes c.in-Err-Failed.ensures.stops rules start past later asks gathers follows stays)

pub returns-clause-stopped : goal.returns-clause-stopped
returns-clause-stopped g c = λ rules start past later asks gathers follows stays.
    let kind = kind_of g.M.Maker.makes g.M.Maker.refuses g.T.Taker.takes g.T.Taker.stops in
    failed_begun kind rules start later c.give_kept.new.taker c.give_kept.new.out
    (begun_within kind (record { takes_more = g.met.T.Taker.takes_more; stops_here = g.met.T.Taker.stops_here; stops_later = g.met.T.Taker.stops_later; stops_more = g.met.T.Taker.stops_more })
    c.args.limit c.args.pattern.now c.args.gathering c.in-Ok.taker c.give_kept.new.taker c.args.out.now c.give_kept.new.out c.in-Ok.ensures.makes c.in-Err-Memory.ensures.stops rules start past later asks gathers follows stays)
