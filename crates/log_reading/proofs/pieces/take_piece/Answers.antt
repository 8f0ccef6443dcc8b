use Rattle.std.proofs.Common.{[], ℕ, Bool}
use Rattle.lp_model.proofs.Results.{on_err}
use Rattle.log_reading.proofs.Advancing.{advances_fed, stops_fed, stops_first, exceeds_fed}
use Rattle.log_reading.proofs.Faults.{handed_on, bad_so}
use Rattle.log_reading.specs.Page.{OnBad, ExceedsWithin}
use Rattle.log_reading.proofs.pieces.take_piece.Goals as goal

pub returns-clause-advances : goal.returns-clause-advances
returns-clause-advances g c = λ waits.
    advances_fed g.T.Taker.takes (g.R.LineReader.format c.args.reader.now) c.args.identity.now waits c.args.piece.now c.args.page.now c.feed.new.self _ _ _ c.feed.ensures.place c.in-Ok.ensures.left (c.in_ok-take_lines.ensures.advances waits)

pub returns-in_err-take_lines-clause-stops : goal.returns-in_err-take_lines-clause-stops
returns-in_err-take_lines-clause-stops g c = on_err _ c.from_residual.result (λ waits.
    stops_fed g.T.Taker.stops (g.R.LineReader.format c.args.reader.now) c.args.identity.now waits c.args.piece.now c.args.page.now c.feed.new.self _ _ _ c.feed.ensures.place c.in-Ok.ensures.left (c.in_err-take_lines.ensures.stops waits))

pub returns-in_default-clause-stops : goal.returns-in_default-clause-stops
returns-in_default-clause-stops g c = λ waits. record {
  within = λ rest. stops_first g.T.Taker.stops _ _ _ c.args.page.now _ _ _ c.requires.within (g.met.T.Taker.stops_here _ _ _ _ [] [] (g.met.T.Taker.takes_none _ _));
}

pub returns-in_err-take_lines-clause-too_many : goal.returns-in_err-take_lines-clause-too_many
returns-in_err-take_lines-clause-too_many g c =
    let page = c.args.page.now in
    let format = g.R.LineReader.format c.args.reader.now in
    let identity = c.args.identity.now in
    let new = c.take_lines.new.page in
    let Q : ℕ → Type 0 = λ row. (waits : Bool) → ExceedsWithin g.T.Taker.takes format identity waits c.args.piece.now page new c.args.out.now c.take_lines.new.out row in
    handed_on c.from_residual.result _ (λ fault. OnBad fault Q) c.from_residual.ensures.1
    (bad_so _ _ Q
    (λ row s waits. exceeds_fed g.T.Taker.takes format identity waits c.args.piece.now page c.feed.new.self new _ _ row c.feed.ensures.place c.in-Ok.ensures.left (s waits))
    c.in_err-take_lines.ensures.too_many)
