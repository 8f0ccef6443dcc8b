use Rattle.std.proofs.Common.{◌≡◌, Bool, refl, sym, subst, take}
use Rattle.lp_model.proofs.Growing.{OnlyGrow-refl}
use Rattle.lp_model.proofs.Results.{on_err}
use Rattle.log_reading.proofs.Spanning.{stops_in_piece, stops_at_once, stops_behind, stops_on, has_read_on, exceeds_in_piece}
use Rattle.log_reading.specs.declared.span.RunFault.{RunFault}
use Rattle.log_reading.specs.Spans.{OnBadLine, ExceedsReading}
use Rattle.log_reading.proofs.logs.read_piece.Goals as goal

pub returns-in-Err-clause-stops : goal.returns-in-Err-clause-stops
returns-in-Err-clause-stops g c = λ waits.
    let span = c.args.span.now in
    let page = c.args.page.now in
    let w = c.args.out.now in
    stops_at_once g.T.Taker.takes g.T.Taker.stops g.met.T.Taker.stops_here (g.R.LineReader.format c.args.reader.now) span.identity waits _ span.name span.listed page w (g.met.T.Taker.takes_none page.taker w) c.requires.within

pub returns-in-Err-Memory-clause-stops : goal.returns-in-Err-Memory-clause-stops
returns-in-Err-Memory-clause-stops g c = λ waits.
    let span = c.args.span.now in
    stops_in_piece g.T.Taker.stops (g.R.LineReader.format c.args.reader.now) span.identity waits _ span.name span.listed c.args.page.now c.take_piece.new.page (take c.in-Ok.count c.read_some.new.chunk) _ _ (rw c.end-at.ensures at c.in-Ok.ensures.part) (c.in-Err-Memory.ensures.stops waits)

pub returns-in-Err-Failed-clause-stops : goal.returns-in-Err-Failed-clause-stops
returns-in-Err-Failed-clause-stops g c = λ waits.
    let span = c.args.span.now in
    stops_in_piece g.T.Taker.stops (g.R.LineReader.format c.args.reader.now) span.identity waits _ span.name span.listed c.args.page.now c.take_piece.new.page (take c.in-Ok.count c.read_some.new.chunk) _ _ (rw c.end-at.ensures at c.in-Ok.ensures.part) (c.in-Err-Failed.ensures.stops waits)

pub returns-in-Err-Stopped-clause-stops : goal.returns-in-Err-Stopped-clause-stops
returns-in-Err-Stopped-clause-stops g c = λ waits.
    let span = c.args.span.now in
    stops_in_piece g.T.Taker.stops (g.R.LineReader.format c.args.reader.now) span.identity waits _ span.name span.listed c.args.page.now c.take_piece.new.page (take c.in-Ok.count c.read_some.new.chunk) _ _ (rw c.end-at.ensures at c.in-Ok.ensures.part) (c.in-Err-Stopped.ensures.stops waits)

pub returns-in-Err-Bad-clause-stops : goal.returns-in-Err-Bad-clause-stops
returns-in-Err-Bad-clause-stops g c = λ waits.
    let span = c.args.span.now in
    stops_in_piece g.T.Taker.stops (g.R.LineReader.format c.args.reader.now) span.identity waits _ span.name span.listed c.args.page.now c.take_piece.new.page (take c.in-Ok.count c.read_some.new.chunk) _ _ (rw c.end-at.ensures at c.in-Ok.ensures.part) (c.in-Err-Bad.ensures.stops waits)

pub returns-in-Err-Bad-clause-too_many : goal.returns-in-Err-Bad-clause-too_many
returns-in-Err-Bad-clause-too_many g c =
    let span = c.args.span.now in
    let page = c.args.page.now in
    let format = g.R.LineReader.format c.args.reader.now in
    let folder = g.L.LogSource.folder c.read_some.new.logs in
    let new = c.take_piece.new.page in
    subst (λ (fault : RunFault). OnBadLine fault (λ line. (line.log ≡ span.identity)
    × ((waits : Bool) → ExceedsReading g.T.Taker.takes format span.identity waits folder span.name span.listed page new c.args.out.now c.take_piece.new.out line.row))) (sym c.one_too_many.ensures)
    (refl, λ waits. exceeds_in_piece g.T.Taker.takes format span.identity waits folder span.name span.listed page new (take c.in-Ok.count c.read_some.new.chunk) _ _ _ (rw c.end-at.ensures at c.in-Ok.ensures.part) ((rw c.in-Err-Bad.field-0-is at c.in-Err-Bad.ensures.too_many) waits))

pub returns-in_err-hand_on-in-Ok-take_piece-clause-stops : goal.returns-in_err-hand_on-in-Ok-take_piece-clause-stops
returns-in_err-hand_on-in-Ok-take_piece-clause-stops g c = on_err _ c.from_residual.result (λ waits.
    let span = c.args.span.now in
    let format = g.R.LineReader.format c.args.reader.now in
    let told = g.L.LogSource.folder c.read_some.new.logs in
    let taken = c.in-Ok-take_piece.ensures in
    stops_behind g.T.Taker.takes g.T.Taker.stops g.met.T.Taker.stops_later format span.identity waits told told span.name span.listed c.args.page.now c.take_piece.new.page c.hand_on.new.page c.args.out.now c.take_piece.new.out c.hand_on.new.out (OnlyGrow-refl told) taken.most
    (record { bytes = take c.in-Ok.count c.read_some.new.chunk; piece = rw c.end-at.ensures at c.in-Ok.ensures.part; end = taken.end; advances = taken.advances waits })
    (stops_on g.T.Taker.stops format span.identity waits told span.name span.listed c.take_piece.new.page c.hand_on.new.page c.take_piece.new.out c.hand_on.new.out taken.within c.in_err-hand_on-in-Ok-take_piece.ensures.stops))

pub returns-in_ok-hand_on-in-Ok-take_piece-clause-read : goal.returns-in_ok-hand_on-in-Ok-take_piece-clause-read
returns-in_ok-hand_on-in-Ok-take_piece-clause-read g c = λ waits.
    let span = c.args.span.now in
    let format = g.R.LineReader.format c.args.reader.now in
    let told = g.L.LogSource.folder c.read_some.new.logs in
    let taken = c.in-Ok-take_piece.ensures in
    let handed = c.in_ok-hand_on-in-Ok-take_piece.ensures in
    has_read_on g.T.Taker.takes g.met.T.Taker.takes_more format span.identity waits told span.name span.listed c.args.page.now c.take_piece.new.page c.hand_on.new.page c.args.out.now c.take_piece.new.out c.hand_on.new.out
    handed.splitter handed.standing handed.rows handed.bad handed.takes
    (record { bytes = take c.in-Ok.count c.read_some.new.chunk; piece = rw c.end-at.ensures at c.in-Ok.ensures.part; end = taken.end; advances = taken.advances waits })
