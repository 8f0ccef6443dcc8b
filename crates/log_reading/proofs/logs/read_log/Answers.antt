use Rattle.std.proofs.Common.{◌≡◌, Bool, true, length, ap, refl, subst, sym, ◌∙◌, arith}
use Rattle.lp_model.proofs.Growing.{OnlyGrow-refl, OnlyGrow-trans}
use Rattle.lp_model.proofs.Results.{on_err}
use Rattle.log_reading.proofs.Spanning.{has_read_none, has_read_trans, stops_behind, exceeds_behind}
use Rattle.log_reading.proofs.Ahead.{has_read_grown}
use Rattle.log_reading.proofs.Faults.{handed_on, bad_line_so}
use Rattle.log_reading.specs.Spans.{BadLine, OnBadLine, ExceedsReading}
use Rattle.log_reading.proofs.logs.read_log.Goals as goal

pub log-init : goal.log-init
log-init g c =
    let page = c.args.page.now in
    let span = c.args.span.now in
    let w = c.args.out.now in
    let empty : length page.splitter.left ≡ 0 = ap length c.requires.empty in
    let start = c.requires.start in
    record {
      grows = OnlyGrow-refl _;
      goes_logs = g.met.L.LogSource.goes_nowhere _;
      ready = subst (g.L.LogSource.ready c.args.logs.now span.name) (sym (omega arith)) c.requires.ready;
      ended = λ e. absurd cc;
      read = λ waits. has_read_none g.T.Taker.takes (g.R.LineReader.format c.args.reader.now) span.identity waits (g.L.LogSource.folder c.args.logs.now) span.name span.listed page w (g.met.T.Taker.takes_none page.taker w) (omega arith);
      fits = omega arith;
      last = omega arith;
      handed = c.requires.handed;
      within = c.requires.within;
      most = refl;
      room = c.requires.room;
      spends = record { lines = omega arith; rows = omega arith; bad = omega arith; taken = omega arith };
      longer = omega arith;
      given = omega arith;
      later_logs = omega arith;
      goes = g.met.T.Taker.goes_nowhere _;
      later = omega arith;
    }

pub log-preserved : goal.log-preserved
log-preserved g c =
    let span = c.args.span.now in
    let so_far = c.log.invariant in
    let here = c.in_ok-more.ensures in
    let longer = here.further in
    let longer_before = so_far.longer in
    let given_before = so_far.given in
    let given_now = here.given in
    let logs_before = so_far.later_logs in
    let logs_now = here.later_logs in
    let before = so_far.later in
    let now = here.later in
    record {
      grows = OnlyGrow-trans _ _ _ so_far.grows here.grows;
      goes_logs = g.met.L.LogSource.goes_on _ _ _ so_far.goes_logs here.goes_logs;
      ready = here.ready;
      ended = c.in_ok-more.ensures.end;
      read = λ waits. has_read_trans g.T.Taker.takes g.met.T.Taker.takes_more (g.R.LineReader.format c.args.reader.now) span.identity waits _ _ span.name span.listed _ _ _ _ _ _ here.grows (so_far.read waits) (here.read waits);
      fits = here.fits;
      last = here.last;
      handed = here.handed;
      within = here.within;
      most = here.most ∙ so_far.most;
      room = here.room;
      spends = let first = so_far.spends in let second = here.spends in
          let f1 = first.lines in let f2 = first.rows in let f3 = first.bad in let f4 = first.taken in
          let s1 = second.lines in let s2 = second.rows in let s3 = second.bad in let s4 = second.taken in
          record { lines = omega arith; rows = omega arith; bad = omega arith; taken = omega arith };
      longer = omega arith;
      given = omega arith;
      later_logs = omega arith;
      goes = g.met.T.Taker.goes_on _ _ _ so_far.goes here.goes;
      later = omega arith;
    }

pub returns-in_err-more-clause-stops : goal.returns-in_err-more-clause-stops
returns-in_err-more-clause-stops g c = on_err _ c.from_residual.result (λ waits.
    let span = c.args.span.now in
    let here = c.in_err-more.ensures in
    stops_behind g.T.Taker.takes g.T.Taker.stops g.met.T.Taker.stops_later (g.R.LineReader.format c.args.reader.now) span.identity waits _ _ span.name span.listed c.args.page.now c.log.page _ _ _ _ here.grows c.log.invariant.most (c.log.invariant.read waits) (here.stops waits))

pub returns-in_err-more-clause-too_many : goal.returns-in_err-more-clause-too_many
returns-in_err-more-clause-too_many g c =
    let span = c.args.span.now in
    let page = c.args.page.now in
    let format = g.R.LineReader.format c.args.reader.now in
    let here = c.in_err-more.ensures in
    let so_far = c.log.invariant in
    let new = c.read_piece.new.page in
    let Q : BadLine → Type 0 = λ line. (line.log ≡ span.identity)
    × ((waits : Bool) → ExceedsReading g.T.Taker.takes format span.identity waits (g.L.LogSource.folder c.read_piece.new.logs) span.name span.listed page new c.args.out.now c.read_piece.new.out line.row) in
    handed_on c.from_residual.result _ (λ fault. OnBadLine fault Q) c.from_residual.ensures.1
    (bad_line_so _ _ Q (λ line s. (s.0, λ waits. exceeds_behind g.T.Taker.takes g.met.T.Taker.takes_more format span.identity waits _ _ span.name span.listed page c.log.page new _ _ _ line.row here.grows so_far.most (so_far.read waits) (s.1 waits)))
    here.too_many)

pub returns-in_err-more-clause-ahead : goal.returns-in_err-more-clause-ahead
returns-in_err-more-clause-ahead g c =
    let span = c.args.span.now in
    let so_far = c.log.invariant in
    let here = c.in_err-more.ensures in
    let given_before = so_far.given in
    let once = here.once in
    let most = here.given_at_most in
    let chunk = c.log.auto.chunk in
    let same = c.read_piece.auto.chunk in
    record {
      page = c.log.page;
      out = c.log.out;
      read = has_read_grown g.T.Taker.takes (g.R.LineReader.format c.args.reader.now) span.identity true _ _ span.name span.listed _ _ _ _ here.grows (so_far.read true);
      last = so_far.last;
      handed = so_far.handed;
      later = here.goes;
      given = omega arith;
      below = omega arith;
    }

pub returns-clause-ahead : goal.returns-clause-ahead
returns-clause-ahead g c =
    let so_far = c.log.invariant in
    let given_before = so_far.given in
    let fits = so_far.fits in
    record {
      page = c.log.page;
      out = c.log.out;
      read = so_far.read true;
      last = so_far.last;
      handed = so_far.handed;
      later = g.met.T.Taker.goes_nowhere _;
      given = omega arith;
      below = omega arith;
    }
