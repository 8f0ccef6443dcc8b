use Rattle.lp_model.proofs.Results.{on_err}
use Rattle.log_reading.proofs.Spanning.{told_ended, told_unended, told_in_rows}
use Rattle.log_reading.proofs.Ahead.{span_ahead_later}
use Rattle.log_reading.proofs.Faults.{handed_on}
use Rattle.log_reading.proofs.logs.take_span.Goals as goal

pub returns-in_err-read_span-clause-stops : goal.returns-in_err-read_span-clause-stops
returns-in_err-read_span-clause-stops g c = on_err _ c.from_residual.result
    (told_in_rows g.T.Taker.stops (g.R.LineReader.format c.args.reader.now) c.args.waits _ c.args.span.now c.args.page.now c.read_span.new.page _ _ c.in_err-read_span.ensures.stops)

pub returns-in_err-read_span-clause-too_many : goal.returns-in_err-read_span-clause-too_many
returns-in_err-read_span-clause-too_many g c = handed_on c.from_residual.result _ _ c.from_residual.ensures.1 c.in_err-read_span.ensures.too_many

pub returns-in_err-end_span-clause-stops : goal.returns-in_err-end_span-clause-stops
returns-in_err-end_span-clause-stops g c =
    let read = c.in_ok-read_span.ensures in
    on_err _ c.from_residual-in_err-end_span.result
    (told_unended g.T.Taker.takes g.T.Taker.stops g.met.T.Taker.stops_later (g.R.LineReader.format c.args.reader.now) c.args.waits _ c.args.span.now c.args.page.now c.read_span.new.page c.end_span.new.page _ _ _ read.takes read.standing read.most read.within c.in_err-end_span.ensures.stops)

pub returns-clause-takes : goal.returns-clause-takes
returns-clause-takes g c =
    let read = c.in_ok-read_span.ensures in
    let end = c.in_ok-end_span.ensures in
    told_ended g.T.Taker.takes g.met.T.Taker.takes_more (g.R.LineReader.format c.args.reader.now) c.args.waits _ c.args.span.now c.args.page.now c.read_span.new.page c.end_span.new.page _ _ _ read.takes read.standing end.takes end.rows end.bad

pub returns-in_err-end_span-clause-ahead : goal.returns-in_err-end_span-clause-ahead
returns-in_err-end_span-clause-ahead g c =
    span_ahead_later g.T.Taker.takes g.T.Taker.goes g.T.Taker.handed_on g.met.T.Taker.goes_on (g.R.LineReader.format c.args.reader.now) c.args.waits _ c.args.span.now _ _ _ c.args.page.now.taker _ _ _ c.in_ok-read_span.ensures.ahead c.in_err-end_span.ensures.goes

pub returns-clause-ahead : goal.returns-clause-ahead
returns-clause-ahead g c =
    span_ahead_later g.T.Taker.takes g.T.Taker.goes g.T.Taker.handed_on g.met.T.Taker.goes_on (g.R.LineReader.format c.args.reader.now) c.args.waits _ c.args.span.now _ _ _ c.args.page.now.taker _ _ _ c.in_ok-read_span.ensures.ahead c.in_ok-end_span.ensures.goes
