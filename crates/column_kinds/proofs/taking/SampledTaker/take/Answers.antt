use Rattle.std.proofs.Common.{sym, ◌∙◌, true≢false}
use Rattle.line_input.specs.Taken.{slots_of}
use Rattle.log_reading.specs.Found.{Found}
use Rattle.column_kinds.specs.Sampling.{kind_of}
use Rattle.column_kinds.specs.Laws.{judged_anyway}
use Rattle.column_kinds.proofs.Answered.{ok_so, err_so}
use Rattle.column_kinds.proofs.Records.{samples_taking, halts_taking, samples_gathering, halts_gathering, samples_turning, halts_turning, halts_refused, halts_lost, judged_taking, judged_turning}
use Rattle.column_kinds.proofs.taking.SampledTaker.take.Goals as goal

pub returns-in-Taking-clause-takes : goal.returns-in-Taking-clause-takes
returns-in-Taking-clause-takes g c =
    let kind = kind_of g.M.Maker.makes g.M.Maker.refuses g.T.Taker.takes g.T.Taker.stops in
    let found : Found = record { identity = c.args.identity.now; row = record { number = c.args.number; slots = slots_of c.args.line.now c.args.fields.now; columns = c.args.columns.now } } in
    ok_so c.take.result c.take.ensures.takes (λ takes. record {
      along = λ rules start past holds.
          record { asks = holds.asks; phase = samples_taking kind (record { takes_more = g.met.T.Taker.takes_more; stops_here = g.met.T.Taker.stops_here; stops_later = g.met.T.Taker.stops_later; stops_more = g.met.T.Taker.stops_more }) c.args.self.now c.in-Taking.taker c.take.new.self c.args.out.now c.take.new.out found c.in-Taking.is takes rules start past holds };
    })

pub returns-in-Taking-clause-stops : goal.returns-in-Taking-clause-stops
returns-in-Taking-clause-stops g c =
    let kind = kind_of g.M.Maker.makes g.M.Maker.refuses g.T.Taker.takes g.T.Taker.stops in
    let found : Found = record { identity = c.args.identity.now; row = record { number = c.args.number; slots = slots_of c.args.line.now c.args.fields.now; columns = c.args.columns.now } } in
    err_so c.take.result c.take.ensures.stops (λ stops. record {
      within = halts_taking kind (record { takes_more = g.met.T.Taker.takes_more; stops_here = g.met.T.Taker.stops_here; stops_later = g.met.T.Taker.stops_later; stops_more = g.met.T.Taker.stops_more }) c.args.self.now c.in-Taking.taker c.take.new.self c.args.out.now c.take.new.out found c.in-Taking.is stops;
      judged = judged_taking kind c.args.self.now c.in-Taking.taker c.args.out.now found c.in-Taking.is;
    })

pub returns-in-Ok-true-clause-takes : goal.returns-in-Ok-true-clause-takes
returns-in-Ok-true-clause-takes g c =
    let kind = kind_of g.M.Maker.makes g.M.Maker.refuses g.T.Taker.takes g.T.Taker.stops in
    let found : Found = record { identity = c.args.identity.now; row = record { number = c.args.number; slots = slots_of c.args.line.now c.args.fields.now; columns = c.args.columns.now } } in
    let kept = c.in-Ok-true.ensures.kept in
    ok_so c.turn.result c.turn.ensures.turned (λ turned. record {
      along = λ rules start past holds.
          record {
            asks = holds.asks;
            phase = samples_turning kind c.args.self.now c.turn.new.phase c.in-Gathering.gathering c.gather.new.gathering c.args.out.now c.turn.new.out found c.in-Gathering.is kept.0 kept.1 c.gather.ensures.maker (c.in-Ok-true.ensures.enough.0 c.in-Ok-true.field-0-test)
                (λ rules start past asks gathers told. turned rules start past asks gathers told) rules start past holds;
          };
    })

pub returns-in-Ok-true-clause-stops : goal.returns-in-Ok-true-clause-stops
returns-in-Ok-true-clause-stops g c =
    let kind = kind_of g.M.Maker.makes g.M.Maker.refuses g.T.Taker.takes g.T.Taker.stops in
    let found : Found = record { identity = c.args.identity.now; row = record { number = c.args.number; slots = slots_of c.args.line.now c.args.fields.now; columns = c.args.columns.now } } in
    let kept = c.in-Ok-true.ensures.kept in
    err_so c.turn.result c.turn.ensures.stopped (λ stopped. record {
      within = halts_turning kind c.args.self.now c.turn.new.phase c.in-Gathering.gathering c.gather.new.gathering c.args.out.now c.turn.new.out found c.in-Gathering.is kept.0 kept.1 c.gather.ensures.maker (c.in-Ok-true.ensures.enough.0 c.in-Ok-true.field-0-test)
          (λ rules start past later asks gathers told follows. stopped rules start past later asks gathers told follows);
      judged = λ rules start past holds.
          judged_anyway c.turn.new.phase _ (judged_turning kind c.args.self.now c.in-Gathering.gathering c.gather.new.gathering c.args.out.now found c.in-Gathering.is kept.0 kept.1 c.gather.ensures.maker (c.in-Ok-true.ensures.enough.0 c.in-Ok-true.field-0-test) rules start past holds);
    })

pub returns-in-Ok-false-clause-takes : goal.returns-in-Ok-false-clause-takes
returns-in-Ok-false-clause-takes g c =
    let kind = kind_of g.M.Maker.makes g.M.Maker.refuses g.T.Taker.takes g.T.Taker.stops in
    let found : Found = record { identity = c.args.identity.now; row = record { number = c.args.number; slots = slots_of c.args.line.now c.args.fields.now; columns = c.args.columns.now } } in
    let kept = c.in-Ok-false.ensures.kept in
    record {
      along = λ rules start past holds.
          record {
            asks = holds.asks;
            phase = samples_gathering kind c.args.self.now c.in-Gathering.gathering c.gather.new.gathering c.args.out.now found c.in-Gathering.is kept.0 kept.1 c.gather.ensures.maker
                (λ enough. true≢false (sym (c.in-Ok-false.ensures.enough.1 enough) ∙ c.in-Ok-false.field-0-test)) rules start past holds;
          };
    }

pub returns-in-Err-clause-stops : goal.returns-in-Err-clause-stops
returns-in-Err-clause-stops g c =
    let kind = kind_of g.M.Maker.makes g.M.Maker.refuses g.T.Taker.takes g.T.Taker.stops in
    let found : Found = record { identity = c.args.identity.now; row = record { number = c.args.number; slots = slots_of c.args.line.now c.args.fields.now; columns = c.args.columns.now } } in
    record { within = halts_gathering kind c.args.self.now c.in-Gathering.gathering c.gather.new.gathering c.args.out.now found c.in-Gathering.is; judged = λ rules start past holds. tt }

pub returns-in-Refused-clause-stops : goal.returns-in-Refused-clause-stops
returns-in-Refused-clause-stops g c =
    halts_refused (kind_of g.M.Maker.makes g.M.Maker.refuses g.T.Taker.takes g.T.Taker.stops) c.args.self.now _ _ _ _ _ c.in-Refused.is

pub returns-in-Lost-clause-stops : goal.returns-in-Lost-clause-stops
returns-in-Lost-clause-stops g c =
    halts_lost (kind_of g.M.Maker.makes g.M.Maker.refuses g.T.Taker.takes g.T.Taker.stops) c.args.self.now _ _ _ _ c.in-Lost.is
