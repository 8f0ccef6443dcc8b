use Rattle.log_reading.proofs.Spanning.{told_here, told_took}
use Rattle.log_reading.proofs.Faults.{handed_on}
use Rattle.log_reading.proofs.logs.take_noted.Goals as goal

pub returns-in-Err-clause-stops : goal.returns-in-Err-clause-stops
returns-in-Err-clause-stops g c =
    told_here g.T.Taker.takes g.T.Taker.stops g.met.T.Taker.stops_here (g.R.LineReader.format c.args.reader.now) c.args.waits _ c.args.span.now c.args.page.now c.take_span.new.page _ _ c.in_ok-take_span.ensures.takes c.in_ok-take_span.ensures.most c.in_ok-take_span.ensures.within

pub returns-in-Ok-clause-took : goal.returns-in-Ok-clause-took
returns-in-Ok-clause-took g c =
    told_took (g.R.LineReader.format c.args.reader.now) c.args.waits _ c.args.span.now c.take_span.new.page c.args.took.now c.note_span.new.took c.in-Ok.ensures c.in_ok-take_span.ensures.ends

pub returns-in_err-take_span-clause-too_many : goal.returns-in_err-take_span-clause-too_many
returns-in_err-take_span-clause-too_many g c = handed_on c.from_residual.result _ _ c.from_residual.ensures.1 c.in_err-take_span.ensures.too_many
