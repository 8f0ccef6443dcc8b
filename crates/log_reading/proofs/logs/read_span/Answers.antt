use Rattle.std.proofs.Common.{◌≡◌, [], ◌∷◌, length, ap, refl, sym, arith, subst, Bool, true}
use Rattle.log_reading.specs.Page.{Follows, to_come}
use Rattle.lp_model.proofs.Results.{on_err}
use Rattle.log_reading.proofs.Spanning.{IsStart, told_taken, told_stopped, told_at_once, stops_at_end, told_ended_so, told_exceeded, told_standing, exceeds_at_end}
use Rattle.log_reading.proofs.Ahead.{span_ahead, span_unread}
use Rattle.log_reading.proofs.Faults.{handed_on, bad_line_so}
use Rattle.log_reading.specs.declared.span.RunFault.{RunFault}
use Rattle.lp_model.specs.Outside.{Told}
use Rattle.log_reading.specs.Spans.{BadLine, OnBadLine, IsKept, bad_line, cut_of}
use Rattle.log_reading.specs.UpTo.{TakesUpTo}
use Rattle.log_reading.proofs.logs.read_span.Goals as goal

pub returns-in_default-clause-stops : goal.returns-in_default-clause-stops
returns-in_default-clause-stops g c =
    let page = c.args.page.now in
    let w = c.args.out.now in
    told_at_once g.T.Taker.takes g.T.Taker.stops g.met.T.Taker.stops_here (g.R.LineReader.format c.args.reader.now) c.args.waits (g.L.LogSource.folder c.args.logs.now) c.args.span.now page c.start_log.new.page w c.start_log.ensures.taker (g.met.T.Taker.takes_none page.taker w) c.requires.within

pub returns-in_err-read_log-clause-stops : goal.returns-in_err-read_log-clause-stops
returns-in_err-read_log-clause-stops g c = on_err _ c.from_residual.result (
    let first = c.start_log.new.page in
    let began = c.in-Ok.ensures in
    let start : IsStart c.args.span.now first = record { place = began.place; left = began.left; standing = began.standing } in
    told_stopped g.T.Taker.stops (g.R.LineReader.format c.args.reader.now) c.args.waits _ c.args.span.now c.args.page.now first _ _ _ start began.taker began.bad began.most (c.in_err-read_log.ensures.stops c.args.waits))

pub returns-in-Ok-finish_log-clause-takes : goal.returns-in-Ok-finish_log-clause-takes
returns-in-Ok-finish_log-clause-takes g c =
    let first = c.start_log.new.page in
    let began = c.in-Ok.ensures in
    let read = c.in_ok-read_log.ensures in
    let start : IsStart c.args.span.now first = record { place = began.place; left = began.left; standing = began.standing } in
    told_taken g.T.Taker.takes g.met.T.Taker.takes_more (g.R.LineReader.format c.args.reader.now) c.args.waits _ c.args.span.now c.args.page.now first c.read_log.new.page c.finish_log.new.page _ _ _ start began.taker began.rows began.bad
    (read.read c.args.waits) read.whole c.in-Ok-finish_log.ensures.takes

pub returns-in-Ok-finish_log-clause-rows : goal.returns-in-Ok-finish_log-clause-rows
returns-in-Ok-finish_log-clause-rows g c =
    let began = c.in-Ok.ensures in
    let read = c.in_ok-read_log.ensures.spends.rows in
    let last = c.in-Ok-finish_log.ensures.spends.rows in
    let rows = began.rows in
    let place = began.place in
    let empty : length c.start_log.new.page.splitter.left ≡ 0 = ap length began.left in
    omega arith

pub returns-in-Ok-finish_log-clause-bad : goal.returns-in-Ok-finish_log-clause-bad
returns-in-Ok-finish_log-clause-bad g c =
    let began = c.in-Ok.ensures in
    let read = c.in_ok-read_log.ensures.spends.bad in
    let last = c.in-Ok-finish_log.ensures.spends.bad in
    let rows = began.bad in
    let place = began.place in
    let empty : length c.start_log.new.page.splitter.left ≡ 0 = ap length began.left in
    omega arith

pub returns-in-Ok-finish_log-clause-taken : goal.returns-in-Ok-finish_log-clause-taken
returns-in-Ok-finish_log-clause-taken g c =
    let began = c.in-Ok.ensures in
    let read = c.in_ok-read_log.ensures.spends.taken in
    let last = c.in-Ok-finish_log.ensures.spends.taken in
    let same : g.T.Taker.count c.start_log.new.page.taker ≡ g.T.Taker.count c.args.page.now.taker = ap g.T.Taker.count began.taker in
    let place = began.place in
    let empty : length c.start_log.new.page.splitter.left ≡ 0 = ap length began.left in
    omega arith

pub returns-in-Err-Memory-clause-stops : goal.returns-in-Err-Memory-clause-stops
returns-in-Err-Memory-clause-stops g c =
    let first = c.start_log.new.page in
    let began = c.in-Ok.ensures in
    let read = c.in_ok-read_log.ensures in
    let span = c.args.span.now in
    let start : IsStart span first = record { place = began.place; left = began.left; standing = began.standing } in
    told_stopped g.T.Taker.stops (g.R.LineReader.format c.args.reader.now) c.args.waits _ span c.args.page.now first _ _ _ start began.taker began.bad began.most
    (stops_at_end g.T.Taker.takes g.T.Taker.stops g.met.T.Taker.stops_later (g.R.LineReader.format c.args.reader.now) span.identity c.args.waits _ span.name span.listed first c.read_log.new.page _ _ _ _ read.most (read.read c.args.waits) read.whole c.in-Err-Memory.ensures.stops)

pub returns-in-Err-Failed-clause-stops : goal.returns-in-Err-Failed-clause-stops
returns-in-Err-Failed-clause-stops g c =
    let first = c.start_log.new.page in
    let began = c.in-Ok.ensures in
    let read = c.in_ok-read_log.ensures in
    let span = c.args.span.now in
    let start : IsStart span first = record { place = began.place; left = began.left; standing = began.standing } in
    told_stopped g.T.Taker.stops (g.R.LineReader.format c.args.reader.now) c.args.waits _ span c.args.page.now first _ _ _ start began.taker began.bad began.most
    (stops_at_end g.T.Taker.takes g.T.Taker.stops g.met.T.Taker.stops_later (g.R.LineReader.format c.args.reader.now) span.identity c.args.waits _ span.name span.listed first c.read_log.new.page _ _ _ _ read.most (read.read c.args.waits) read.whole c.in-Err-Failed.ensures.stops)

pub returns-in-Err-Stopped-clause-stops : goal.returns-in-Err-Stopped-clause-stops
returns-in-Err-Stopped-clause-stops g c =
    let first = c.start_log.new.page in
    let began = c.in-Ok.ensures in
    let read = c.in_ok-read_log.ensures in
    let span = c.args.span.now in
    let start : IsStart span first = record { place = began.place; left = began.left; standing = began.standing } in
    told_stopped g.T.Taker.stops (g.R.LineReader.format c.args.reader.now) c.args.waits _ span c.args.page.now first _ _ _ start began.taker began.bad began.most
    (stops_at_end g.T.Taker.takes g.T.Taker.stops g.met.T.Taker.stops_later (g.R.LineReader.format c.args.reader.now) span.identity c.args.waits _ span.name span.listed first c.read_log.new.page _ _ _ _ read.most (read.read c.args.waits) read.whole c.in-Err-Stopped.ensures.stops)

pub returns-in-Err-Bad-clause-stops : goal.returns-in-Err-Bad-clause-stops
returns-in-Err-Bad-clause-stops g c =
    let first = c.start_log.new.page in
    let began = c.in-Ok.ensures in
    let read = c.in_ok-read_log.ensures in
    let span = c.args.span.now in
    let start : IsStart span first = record { place = began.place; left = began.left; standing = began.standing } in
    told_stopped g.T.Taker.stops (g.R.LineReader.format c.args.reader.now) c.args.waits _ span c.args.page.now first _ _ _ start began.taker began.bad began.most
    (stops_at_end g.T.Taker.takes g.T.Taker.stops g.met.T.Taker.stops_later (g.R.LineReader.format c.args.reader.now) span.identity c.args.waits _ span.name span.listed first c.read_log.new.page _ _ _ _ read.most (read.read c.args.waits) read.whole c.in-Err-Bad.ensures.stops)

pub returns-in-Ok-finish_log-clause-ends : goal.returns-in-Ok-finish_log-clause-ends
returns-in-Ok-finish_log-clause-ends g c =
    let first = c.start_log.new.page in
    let began = c.in-Ok.ensures in
    let read = c.in_ok-read_log.ensures in
    let done = c.in-Ok-finish_log.ensures in
    let start : IsStart c.args.span.now first = record { place = began.place; left = began.left; standing = began.standing } in
    told_ended_so g.T.Taker.takes g.met.T.Taker.takes_more (g.R.LineReader.format c.args.reader.now) c.args.waits _ c.args.span.now first c.read_log.new.page c.finish_log.new.page _ _ _ start (read.read c.args.waits) read.whole read.last done.place done.end done.takes

pub returns-in_err-read_log-clause-too_many : goal.returns-in_err-read_log-clause-too_many
returns-in_err-read_log-clause-too_many g c =
    let first = c.start_log.new.page in
    let began = c.in-Ok.ensures in
    let span = c.args.span.now in
    let page = c.args.page.now in
    let new = c.read_log.new.page in
    let format = g.R.LineReader.format c.args.reader.now in
    let folder = g.L.LogSource.folder c.read_log.new.logs in
    let start : IsStart span first = record { place = began.place; left = began.left; standing = began.standing } in
    let Q : BadLine → Type 0 = λ line. Told folder (λ folder. IsKept format c.args.waits (cut_of folder span) span → TakesUpTo g.T.Taker.takes format c.args.waits folder (span ∷ []) line page new c.args.out.now c.read_log.new.out) in
    handed_on c.from_residual.result _ (λ fault. OnBadLine fault Q) c.from_residual.ensures.1
    (bad_line_so _ _ Q (λ line s. told_exceeded g.T.Taker.takes format c.args.waits folder span page first new _ _ line start began.taker began.bad began.most s.0 (s.1 c.args.waits))
    c.in_err-read_log.ensures.too_many)

pub returns-in-Err-Bad-clause-too_many : goal.returns-in-Err-Bad-clause-too_many
returns-in-Err-Bad-clause-too_many g c =
    let first = c.start_log.new.page in
    let began = c.in-Ok.ensures in
    let read = c.in_ok-read_log.ensures in
    let span = c.args.span.now in
    let page = c.args.page.now in
    let new = c.finish_log.new.page in
    let format = g.R.LineReader.format c.args.reader.now in
    let folder = g.L.LogSource.folder c.read_log.new.logs in
    let start : IsStart span first = record { place = began.place; left = began.left; standing = began.standing } in
    let Q : BadLine → Type 0 = λ line. Told folder (λ folder. IsKept format c.args.waits (cut_of folder span) span → TakesUpTo g.T.Taker.takes format c.args.waits folder (span ∷ []) line page new c.args.out.now c.finish_log.new.out) in
    subst (λ (fault : RunFault). OnBadLine fault Q) (sym c.one_too_many.ensures)
    (told_exceeded g.T.Taker.takes format c.args.waits folder span page first new _ _ (bad_line span.identity _) start began.taker began.bad began.most refl
    (exceeds_at_end g.T.Taker.takes g.met.T.Taker.takes_more format span.identity c.args.waits folder span.name span.listed first c.read_log.new.page new _ _ _ _ read.most (read.read c.args.waits) read.whole (rw c.in-Err-Bad.field-0-is at c.in-Err-Bad.ensures.too_many)))

pub returns-in-Ok-finish_log-clause-standing : goal.returns-in-Ok-finish_log-clause-standing
returns-in-Ok-finish_log-clause-standing g c =
    let first = c.start_log.new.page in
    let began = c.in-Ok.ensures in
    let read = c.in_ok-read_log.ensures in
    let start : IsStart c.args.span.now first = record { place = began.place; left = began.left; standing = began.standing } in
    told_standing g.T.Taker.takes g.met.T.Taker.takes_more (g.R.LineReader.format c.args.reader.now) c.args.waits _ c.args.span.now first c.read_log.new.page c.finish_log.new.page _ _ _ start
    (read.read c.args.waits) read.whole c.in-Ok-finish_log.ensures.takes

pub returns-in_default-clause-ahead : goal.returns-in_default-clause-ahead
returns-in_default-clause-ahead g c =
    let page = c.args.page.now in
    let w = c.args.out.now in
    span_unread g.T.Taker.takes g.T.Taker.goes g.T.Taker.handed_on (g.R.LineReader.format c.args.reader.now) c.args.waits _ c.args.span.now _ _ page.taker w (g.met.T.Taker.takes_none page.taker w) (g.met.T.Taker.goes_nowhere w) c.requires.handed c.requires.start

pub returns-in_err-read_log-clause-ahead : goal.returns-in_err-read_log-clause-ahead
returns-in_err-read_log-clause-ahead g c =
    let first = c.start_log.new.page in
    let began = c.in-Ok.ensures in
    let start : IsStart c.args.span.now first = record { place = began.place; left = began.left; standing = began.standing } in
    span_ahead g.T.Taker.takes g.T.Taker.goes g.T.Taker.handed_on g.met.T.Taker.takes_none g.met.T.Taker.takes_more g.met.T.Taker.goes_on (g.R.LineReader.format c.args.reader.now) c.args.waits _ c.args.span.now _ _ _ c.args.page.now first _ _ _
    start began.taker c.requires.start c.in_err-read_log.ensures.ahead (g.met.T.Taker.goes_nowhere _)

pub returns-in-Ok-finish_log-clause-ahead : goal.returns-in-Ok-finish_log-clause-ahead
returns-in-Ok-finish_log-clause-ahead g c =
    let first = c.start_log.new.page in
    let began = c.in-Ok.ensures in
    let start : IsStart c.args.span.now first = record { place = began.place; left = began.left; standing = began.standing } in
    span_ahead g.T.Taker.takes g.T.Taker.goes g.T.Taker.handed_on g.met.T.Taker.takes_none g.met.T.Taker.takes_more g.met.T.Taker.goes_on (g.R.LineReader.format c.args.reader.now) c.args.waits _ c.args.span.now _ _ _ c.args.page.now first _ _ _
    start began.taker c.requires.start c.in_ok-read_log.ensures.ahead c.in-Ok-finish_log.ensures.goes

pub returns-in-Err-Memory-clause-ahead : goal.returns-in-Err-Memory-clause-ahead
returns-in-Err-Memory-clause-ahead g c =
    let first = c.start_log.new.page in
    let began = c.in-Ok.ensures in
    let start : IsStart c.args.span.now first = record { place = began.place; left = began.left; standing = began.standing } in
    span_ahead g.T.Taker.takes g.T.Taker.goes g.T.Taker.handed_on g.met.T.Taker.takes_none g.met.T.Taker.takes_more g.met.T.Taker.goes_on (g.R.LineReader.format c.args.reader.now) c.args.waits _ c.args.span.now _ _ _ c.args.page.now first _ _ _
    start began.taker c.requires.start c.in_ok-read_log.ensures.ahead c.in-Err-Memory.ensures.goes

pub returns-in-Err-Failed-clause-ahead : goal.returns-in-Err-Failed-clause-ahead
returns-in-Err-Failed-clause-ahead g c =
    let first = c.start_log.new.page in
    let began = c.in-Ok.ensures in
    let start : IsStart c.args.span.now first = record { place = began.place; left = began.left; standing = began.standing } in
    span_ahead g.T.Taker.takes g.T.Taker.goes g.T.Taker.handed_on g.met.T.Taker.takes_none g.met.T.Taker.takes_more g.met.T.Taker.goes_on (g.R.LineReader.format c.args.reader.now) c.args.waits _ c.args.span.now _ _ _ c.args.page.now first _ _ _
    start began.taker c.requires.start c.in_ok-read_log.ensures.ahead c.in-Err-Failed.ensures.goes

pub returns-in-Err-Stopped-clause-ahead : goal.returns-in-Err-Stopped-clause-ahead
returns-in-Err-Stopped-clause-ahead g c =
    let first = c.start_log.new.page in
    let began = c.in-Ok.ensures in
    let start : IsStart c.args.span.now first = record { place = began.place; left = began.left; standing = began.standing } in
    span_ahead g.T.Taker.takes g.T.Taker.goes g.T.Taker.handed_on g.met.T.Taker.takes_none g.met.T.Taker.takes_more g.met.T.Taker.goes_on (g.R.LineReader.format c.args.reader.now) c.args.waits _ c.args.span.now _ _ _ c.args.page.now first _ _ _
    start began.taker c.requires.start c.in_ok-read_log.ensures.ahead c.in-Err-Stopped.ensures.goes

pub returns-in-Err-Bad-clause-ahead : goal.returns-in-Err-Bad-clause-ahead
returns-in-Err-Bad-clause-ahead g c =
    let first = c.start_log.new.page in
    let began = c.in-Ok.ensures in
    let start : IsStart c.args.span.now first = record { place = began.place; left = began.left; standing = began.standing } in
    span_ahead g.T.Taker.takes g.T.Taker.goes g.T.Taker.handed_on g.met.T.Taker.takes_none g.met.T.Taker.takes_more g.met.T.Taker.goes_on (g.R.LineReader.format c.args.reader.now) c.args.waits _ c.args.span.now _ _ _ c.args.page.now first _ _ _
    start began.taker c.requires.start c.in_ok-read_log.ensures.ahead c.in-Err-Bad.ensures.goes
