use Rattle.std.proofs.Common.{[], ℕ, Bool, ◌∙◌, refl, arith}
use Rattle.lp_model.proofs.Results.{on_err}
use Rattle.log_reading.proofs.Advancing.{advances_none, advances_trans, stops_within, spends_trans, exceeds_within}
use Rattle.log_reading.proofs.Faults.{handed_on, bad_so}
use Rattle.log_reading.specs.Page.{OnBad, ExceedsWithin}
use Rattle.log_reading.proofs.pieces.take_lines.Goals as goal

pub loop-more-init : goal.loop-more-init
loop-more-init g c =
    let page = c.args.page.now in
    let w = c.args.out.now in
    record {
      advances = λ waits. advances_none g.T.Taker.takes (g.R.LineReader.format c.args.reader.now) c.args.identity.now waits page w (g.met.T.Taker.takes_none page.taker w);
      spends = record { lines = omega arith; rows = omega arith; bad = omega arith; taken = omega arith };
      end = omega arith;
      within = c.requires.within;
      most = refl;
      goes = g.met.T.Taker.goes_nowhere _;
      later = omega arith;
    }

pub loop-more-preserved : goal.loop-more-preserved
loop-more-preserved g c =
    let took = c.in_ok-more.ensures in
    let so_far = c.loop-more.invariant in
    let later = took.later in
    let before = so_far.later in
    record {
      advances = λ waits. advances_trans g.T.Taker.takes g.met.T.Taker.takes_more (g.R.LineReader.format c.args.reader.now) c.args.identity.now waits [] [] _ _ _ _ _ _ (so_far.advances waits) (took.advances waits);
      spends = spends_trans g.T.Taker.count _ _ _ 0 0 so_far.spends took.spends;
      end = took.end ∙ so_far.end;
      within = took.within;
      most = took.most ∙ so_far.most;
      goes = g.met.T.Taker.goes_on _ _ _ so_far.goes took.goes;
      later = omega arith;
    }

pub returns-in_err-more-clause-stops : goal.returns-in_err-more-clause-stops
returns-in_err-more-clause-stops g c = on_err _ c.from_residual.result (λ waits.
    stops_within g.T.Taker.takes g.T.Taker.stops g.met.T.Taker.stops_later (g.R.LineReader.format c.args.reader.now) c.args.identity.now waits [] [] c.args.page.now c.loop-more.page _ _ _ _ c.loop-more.invariant.most (c.loop-more.invariant.advances waits) (c.in_err-more.ensures.stops waits))

pub returns-clause-advances : goal.returns-clause-advances
returns-clause-advances g c = λ waits.
    advances_trans g.T.Taker.takes g.met.T.Taker.takes_more (g.R.LineReader.format c.args.reader.now) c.args.identity.now waits [] [] _ _ _ _ _ _ (c.loop-more.invariant.advances waits) (c.in_ok-more.ensures.advances waits)

pub returns-clause-spends : goal.returns-clause-spends
returns-clause-spends g c = spends_trans g.T.Taker.count _ _ _ 0 0 c.loop-more.invariant.spends c.in_ok-more.ensures.spends

pub returns-in_err-more-clause-too_many : goal.returns-in_err-more-clause-too_many
returns-in_err-more-clause-too_many g c =
    let page = c.args.page.now in
    let format = g.R.LineReader.format c.args.reader.now in
    let so_far = c.loop-more.invariant in
    let identity = c.args.identity.now in
    let new = c.take_next.new.page in
    let Q : ℕ → Type 0 = λ row. (waits : Bool) → ExceedsWithin g.T.Taker.takes format identity waits [] page new c.args.out.now c.take_next.new.out row in
    handed_on c.from_residual.result _ (λ fault. OnBad fault Q) c.from_residual.ensures.1
    (bad_so _ _ Q
    (λ row s waits. exceeds_within g.T.Taker.takes g.met.T.Taker.takes_more format identity waits [] [] page c.loop-more.page new _ _ _ row so_far.most (so_far.advances waits) (s waits))
    c.in_err-more.ensures.too_many)
