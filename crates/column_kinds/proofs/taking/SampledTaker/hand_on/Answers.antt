use Rattle.column_kinds.specs.Sampling.{kind_of}
use Rattle.column_kinds.proofs.Answered.{ok_so, err_so}
use Rattle.column_kinds.proofs.Records.{samples_handed, halts_handed, judged_handed}
use Rattle.column_kinds.proofs.taking.SampledTaker.hand_on.Goals as goal

pub returns-in-Taking-clause-takes : goal.returns-in-Taking-clause-takes
returns-in-Taking-clause-takes g c =
    let kind = kind_of g.M.Maker.makes g.M.Maker.refuses g.T.Taker.takes g.T.Taker.stops in
    ok_so c.hand_on.result c.hand_on.ensures.takes (λ takes. record {
      along = λ rules start past holds.
          record { asks = holds.asks; phase = samples_handed kind (record { takes_more = g.met.T.Taker.takes_more; stops_here = g.met.T.Taker.stops_here; stops_later = g.met.T.Taker.stops_later; stops_more = g.met.T.Taker.stops_more }) c.args.self.now c.in-Taking.taker c.hand_on.new.self c.args.out.now c.hand_on.new.out c.in-Taking.is takes rules start past holds };
    })

pub returns-in-Taking-clause-stops : goal.returns-in-Taking-clause-stops
returns-in-Taking-clause-stops g c =
    let kind = kind_of g.M.Maker.makes g.M.Maker.refuses g.T.Taker.takes g.T.Taker.stops in
    err_so c.hand_on.result c.hand_on.ensures.stops (λ stops. record {
      within = halts_handed kind (record { takes_more = g.met.T.Taker.takes_more; stops_here = g.met.T.Taker.stops_here; stops_later = g.met.T.Taker.stops_later; stops_more = g.met.T.Taker.stops_more }) c.args.self.now c.in-Taking.taker c.hand_on.new.self c.args.out.now c.hand_on.new.out c.in-Taking.is stops;
      judged = judged_handed kind c.args.self.now c.in-Taking.taker c.args.out.now c.in-Taking.is;
    })

pub returns-in-Gathering-clause-takes : goal.returns-in-Gathering-clause-takes
returns-in-Gathering-clause-takes g c = record { along = λ rules start past holds. record { asks = holds.asks; phase = holds.phase } }

pub returns-in-Refused-clause-takes : goal.returns-in-Refused-clause-takes
returns-in-Refused-clause-takes g c = record { along = λ rules start past holds. record { asks = holds.asks; phase = holds.phase } }

pub returns-in-Lost-clause-takes : goal.returns-in-Lost-clause-takes
returns-in-Lost-clause-takes g c = record { along = λ rules start past holds. record { asks = holds.asks; phase = holds.phase } }
