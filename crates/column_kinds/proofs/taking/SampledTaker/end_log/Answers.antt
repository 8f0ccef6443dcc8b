use Rattle.column_kinds.specs.Sampling.{kind_of}
use Rattle.column_kinds.proofs.Noted.{notes_hold, ended_lost}
use Rattle.column_kinds.proofs.taking.SampledTaker.end_log.Goals as goal

pub returns-in-Ok-clause-takes : goal.returns-in-Ok-clause-takes
returns-in-Ok-clause-takes g c = record {
  along = λ rules start past holds.
      notes_hold (kind_of g.M.Maker.makes g.M.Maker.refuses g.T.Taker.takes g.T.Taker.stops) rules start past c.args.identity.now c.args.columns.now c.args.self.now c.note_first.new.sampled c.args.out.now c.in-Ok.ensures.noted holds;
}

pub returns-in-Err-clause-stops : goal.returns-in-Err-clause-stops
returns-in-Err-clause-stops g c =
    ended_lost (kind_of g.M.Maker.makes g.M.Maker.refuses g.T.Taker.takes g.T.Taker.stops) (record { takes_more = g.met.T.Taker.takes_more; stops_here = g.met.T.Taker.stops_here; stops_later = g.met.T.Taker.stops_later; stops_more = g.met.T.Taker.stops_more })
    c.args.self.now c.note_first.new.sampled c.args.out.now c.args.identity.now c.args.columns.now c.in-Err.ensures.err
