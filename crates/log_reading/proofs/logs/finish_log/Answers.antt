use Rattle.std.proofs.Common.{◌≡◌, [], ℕ, Bool, List, ◌∙◌, ap, sym, subst}
use Rattle.lp_model.specs.Lines.{Line}
use Rattle.log_reading.specs.Page.{Follows, ExceedsIn, OnBad, to_come}
use Rattle.log_reading.proofs.Faults.{handed_on, bad_so}
use Rattle.log_reading.proofs.Advancing.{follows_none, to_come-waiting}
use Rattle.log_reading.proofs.logs.finish_log.Goals as goal

pub returns-then-waits-clause-takes : goal.returns-then-waits-clause-takes
returns-then-waits-clause-takes g c =
    let page = c.args.page.now in
    let w = c.args.out.now in
    let Of : List Line → Type 0 = λ lines. Follows g.T.Taker.takes (g.R.LineReader.format c.args.reader.now) c.args.span.now.identity lines page page w w in
    let none : to_come c.args.waits page [] ≡ [] = ap (λ b. to_come b page []) c.if-waits.true ∙ to_come-waiting page c.requires.last in
    subst Of (sym none) (follows_none g.T.Taker.takes (g.R.LineReader.format c.args.reader.now) c.args.span.now.identity page w (g.met.T.Taker.takes_none page.taker w))

pub returns-in_err-take_rest-clause-too_many : goal.returns-in_err-take_rest-clause-too_many
returns-in_err-take_rest-clause-too_many g c =
    let page = c.args.page.now in
    let format = g.R.LineReader.format c.args.reader.now in
    let identity = c.args.span.now.identity in
    let new = c.take_rest.new.page in
    let Q : ℕ → Type 0 = λ row. ExceedsIn g.T.Taker.takes format identity (to_come c.args.waits page []) page new c.args.out.now c.take_rest.new.out row in
    handed_on c.from_residual.result _ (λ fault. OnBad fault Q) c.from_residual.ensures.1
    (bad_so _ _ Q
    (λ row s. subst (λ (b : Bool). ExceedsIn g.T.Taker.takes format identity (to_come b page []) page new c.args.out.now c.take_rest.new.out row) (sym c.if-waits.false) s)
    c.in_err-take_rest.ensures.too_many)
