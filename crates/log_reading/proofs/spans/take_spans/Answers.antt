use Rattle.std.proofs.Common.{◌∙◌, arith, inr}
use Rattle.lp_model.proofs.Growing.{OnlyGrow-trans}
use Rattle.lp_model.proofs.Results.{on_err}
use Rattle.log_reading.proofs.SpansTaken.{spans_more, spans_stopped, spans_exceeded, told_stops, told_too_many, size_more, took_more}
use Rattle.log_reading.proofs.Readable.{readable_next, readable_there}
use Rattle.log_reading.proofs.Ahead.{spans_ahead}
use Rattle.log_reading.proofs.Faults.{handed_on, bad_line_so}
use Rattle.lp_model.specs.Outside.{Told}
use Rattle.log_reading.specs.Page.{IsTooMany}
use Rattle.log_reading.specs.Spans.{BadLine, OnBadLine, AreKept, spans_bad_lines}
use Rattle.log_reading.specs.UpTo.{TakesUpTo}
use Rattle.log_reading.proofs.spans.take_spans.Goals as goal

pub returns-in_err-take_noted-clause-grows : goal.returns-in_err-take_noted-clause-grows
returns-in_err-take_noted-clause-grows g c = OnlyGrow-trans _ _ _ c.loop-span.invariant.grows c.in_err-take_noted.ensures.grows

pub returns-in_err-take_noted-clause-in_turn : goal.returns-in_err-take_noted-clause-in_turn
returns-in_err-take_noted-clause-in_turn g c = on_err _ c.from_residual.result (
    let so_far = c.loop-span.invariant in
    let here = c.in_err-take_noted.ensures in
    spans_stopped g.T.Taker.takes g.T.Taker.stops g.met.T.Taker.stops_later (g.R.LineReader.format c.args.reader.now) c.args.waits _ _ c.args.spans.now c.loop-span.span-index c.span-item.result c.args.page.now c.loop-span.page c.take_noted.new.page _ _ _ c.loop-span-test.true c.span-item.is
    here.grows (readable_there g.L.LogSource.folder g.L.LogSource.ready _ c.args.spans.now c.loop-span.span-index c.loop-span-test.true so_far.readable) so_far.most so_far.takes here.stops)

pub returns-in_err-take_noted-clause-stops : goal.returns-in_err-take_noted-clause-stops
returns-in_err-take_noted-clause-stops g c = on_err _ c.from_residual.result (
    let so_far = c.loop-span.invariant in
    let here = c.in_err-take_noted.ensures in
    told_stops g.T.Taker.stops g.met.T.Taker.stops_more (g.R.LineReader.format c.args.reader.now) c.args.waits _ c.args.spans.now c.args.page.now c.take_noted.new.page _ _
    (spans_stopped g.T.Taker.takes g.T.Taker.stops g.met.T.Taker.stops_later (g.R.LineReader.format c.args.reader.now) c.args.waits _ _ c.args.spans.now c.loop-span.span-index c.span-item.result c.args.page.now c.loop-span.page c.take_noted.new.page _ _ _ c.loop-span-test.true c.span-item.is
    here.grows (readable_there g.L.LogSource.folder g.L.LogSource.ready _ c.args.spans.now c.loop-span.span-index c.loop-span-test.true so_far.readable) so_far.most so_far.takes here.stops))

pub loop-span-preserved : goal.loop-span-preserved
loop-span-preserved g c =
    let so_far = c.loop-span.invariant in
    let here = c.in_ok-take_noted.ensures in
    let size = size_more c.args.spans.now c.loop-span.span-index c.span-item.result c.loop-span-test.true c.span-item.is in
    let rows1 = so_far.rows in let rows2 = here.rows in
    let bad1 = so_far.bad in let bad2 = here.bad in
    let taken1 = so_far.taken in let taken2 = here.taken in
    let given1 = so_far.given in let given2 = here.given in
    let logs1 = so_far.later_logs in let logs2 = here.later_logs in
    let later1 = so_far.later in let later2 = here.later in
    let start = (c.requires.spans c.loop-span.span-index c.span-item.result c.loop-span-test.true c.span-item.is).start in
    record {
      grows = OnlyGrow-trans _ _ _ so_far.grows here.grows;
      goes_logs = g.met.L.LogSource.goes_on _ _ _ so_far.goes_logs here.goes_logs;
      readable = readable_next g.L.LogSource.folder g.L.LogSource.ready _ _ c.args.spans.now c.loop-span.span-index here.grows so_far.readable;
      takes = spans_more g.T.Taker.takes g.met.T.Taker.takes_more (g.R.LineReader.format c.args.reader.now) c.args.waits _ _ c.args.spans.now c.loop-span.span-index c.span-item.result _ _ _ _ _ _ c.loop-span-test.true c.span-item.is
          here.grows (readable_there g.L.LogSource.folder g.L.LogSource.ready _ c.args.spans.now c.loop-span.span-index c.loop-span-test.true so_far.readable) so_far.takes here.takes;
      took = took_more (g.R.LineReader.format c.args.reader.now) c.args.waits _ _ c.args.spans.now c.loop-span.span-index c.span-item.result c.args.took.now _ _ c.loop-span-test.true c.span-item.is
          here.grows (readable_there g.L.LogSource.folder g.L.LogSource.ready _ c.args.spans.now c.loop-span.span-index c.loop-span-test.true so_far.readable) so_far.took here.took;
      handed = here.handed;
      ahead = inr (spans_ahead g.T.Taker.takes g.T.Taker.goes g.T.Taker.handed_on g.met.T.Taker.takes_more (g.R.LineReader.format c.args.reader.now) c.args.waits _ _ c.args.spans.now c.loop-span.span-index c.span-item.result _ _ _ _ _ c.args.page.now c.loop-span.page _ _ _
          c.loop-span-test.true c.span-item.is here.grows (readable_there g.L.LogSource.folder g.L.LogSource.ready _ c.args.spans.now c.loop-span.span-index c.loop-span-test.true so_far.readable) so_far.takes so_far.given c.loop-span.auto.chunk here.ahead);
      within = here.within;
      most = here.most ∙ so_far.most;
      rows = omega arith;
      bad = omega arith;
      taken = omega arith;
      given = omega arith;
      later_logs = omega arith;
      goes = g.met.T.Taker.goes_on _ _ _ so_far.goes here.goes;
      later = omega arith;
    }

pub returns-in_err-take_noted-clause-behind : goal.returns-in_err-take_noted-clause-behind
returns-in_err-take_noted-clause-behind g c =
    let so_far = c.loop-span.invariant in
    let here = c.in_err-take_noted.ensures in
    let spans = c.args.spans.now in
    let page = c.args.page.now in
    let new = c.take_noted.new.page in
    let format = g.R.LineReader.format c.args.reader.now in
    let Q : BadLine → Type 0 = λ line. Told (g.L.LogSource.folder c.take_noted.new.logs) (λ folder. AreKept format c.args.waits spans folder → TakesUpTo g.T.Taker.takes format c.args.waits folder spans line page new c.args.out.now c.take_noted.new.out) in
    handed_on c.from_residual.result _ (λ fault. OnBadLine fault Q) c.from_residual.ensures.1
    (bad_line_so _ _ Q (λ line s. spans_exceeded g.T.Taker.takes g.met.T.Taker.takes_more format c.args.waits _ _ spans c.loop-span.span-index c.span-item.result line page c.loop-span.page new _ _ _ c.loop-span-test.true c.span-item.is
    here.grows (readable_there g.L.LogSource.folder g.L.LogSource.ready _ spans c.loop-span.span-index c.loop-span-test.true so_far.readable) so_far.most so_far.takes s)
    here.too_many)

pub returns-in_err-take_noted-clause-too_many : goal.returns-in_err-take_noted-clause-too_many
returns-in_err-take_noted-clause-too_many g c =
    let so_far = c.loop-span.invariant in
    let here = c.in_err-take_noted.ensures in
    let spans = c.args.spans.now in
    let page = c.args.page.now in
    let new = c.take_noted.new.page in
    let format = g.R.LineReader.format c.args.reader.now in
    let Q : BadLine → Type 0 = λ line. Told (g.L.LogSource.folder c.take_noted.new.logs) (λ folder. AreKept format c.args.waits spans folder → IsTooMany page.most_bad page.bad (spans_bad_lines format c.args.waits folder spans) line) in
    handed_on c.from_residual.result _ (λ fault. OnBadLine fault Q) c.from_residual.ensures.1
    (bad_line_so _ _ Q (λ line s. told_too_many g.T.Taker.takes format c.args.waits _ spans line page new _ _
    (spans_exceeded g.T.Taker.takes g.met.T.Taker.takes_more format c.args.waits _ _ spans c.loop-span.span-index c.span-item.result line page c.loop-span.page new _ _ _ c.loop-span-test.true c.span-item.is
    here.grows (readable_there g.L.LogSource.folder g.L.LogSource.ready _ spans c.loop-span.span-index c.loop-span-test.true so_far.readable) so_far.most so_far.takes s))
    here.too_many)

pub returns-in_err-take_noted-clause-ahead : goal.returns-in_err-take_noted-clause-ahead
returns-in_err-take_noted-clause-ahead g c = inr (
    let so_far = c.loop-span.invariant in
    let here = c.in_err-take_noted.ensures in
    spans_ahead g.T.Taker.takes g.T.Taker.goes g.T.Taker.handed_on g.met.T.Taker.takes_more (g.R.LineReader.format c.args.reader.now) c.args.waits _ _ c.args.spans.now c.loop-span.span-index c.span-item.result _ _ _ _ _ c.args.page.now c.loop-span.page _ _ _
    c.loop-span-test.true c.span-item.is here.grows (readable_there g.L.LogSource.folder g.L.LogSource.ready _ c.args.spans.now c.loop-span.span-index c.loop-span-test.true so_far.readable) so_far.takes so_far.given c.loop-span.auto.chunk here.ahead)
