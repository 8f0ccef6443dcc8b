use Rattle.std.proofs.Common.{◌+◌, ℕ, List, [], false, refl, sym, ◌∙◌, subst}
use Rattle.lp_model.specs.Lines.{Line, last_line}
use Rattle.log_reading.specs.Page.{Follows, StopsIn, ExceedsIn, OnBad, to_come}
use Rattle.lp_model.proofs.Results.{on_err}
use Rattle.log_reading.proofs.Advancing.{follows_overlong, to_come-last, stops_unmoved, stops_one, exceeds_overlong}
use Rattle.log_reading.proofs.Faults.{handed_on, bad_so}
use Rattle.log_reading.proofs.lines.take_rest.Goals as goal

pub returns-in_err-take_text-in-Line-clause-stops : goal.returns-in_err-take_text-in-Line-clause-stops
returns-in_err-take_text-in-Line-clause-stops g c = on_err _ c.from_residual.result (
    let page = c.args.page.now in
    let line = last_line (page.standing.lines + 1) page.splitter.place page.splitter.left in
    let stopped = c.in_err-take_text-in-Line.ensures.stops line refl (sym c.in-Line.ensures.1) c.in-Line.ensures.2 in
    let Of : List Line → Type 0 = λ lines. StopsIn g.T.Taker.stops (g.R.LineReader.format c.args.reader.now) c.args.identity.now lines page c.take_text.new.page c.args.out.now c.take_text.new.out in
    subst Of (sym (to_come-last page c.requires.last c.in-Line.ensures.0.some))
    (stops_one g.T.Taker.stops (g.R.LineReader.format c.args.reader.now) c.args.identity.now line page c.take_text.new.page _ _ c.requires.within (λ history at. stopped.behind history at)))

pub returns-else-pass_overlong-clause-takes : goal.returns-else-pass_overlong-clause-takes
returns-else-pass_overlong-clause-takes g c =
    let page = c.args.page.now in
    let new = c.pass_overlong.new.page in
    let passed = c.pass_overlong.ensures in
    let w = c.args.out.now in
    let line = last_line (page.standing.lines + 1) page.splitter.place page.splitter.left in
    let Of : List Line → Type 0 = λ lines. Follows g.T.Taker.takes (g.R.LineReader.format c.args.reader.now) c.args.identity.now lines page new w w in
    subst Of (sym (to_come-last page c.requires.last c.in-TooLongLine.ensures.0.some))
    (follows_overlong g.T.Taker.takes (g.R.LineReader.format c.args.reader.now) c.args.identity.now line page new w (g.met.T.Taker.takes_none page.taker w) c.in-TooLongLine.ensures.2 passed.taker passed.lines passed.columns passed.rows passed.bad)

pub returns-in_ok-take_text-in-Line-clause-takes : goal.returns-in_ok-take_text-in-Line-clause-takes
returns-in_ok-take_text-in-Line-clause-takes g c =
    let page = c.args.page.now in
    let new = c.take_text.new.page in
    let took = c.in_ok-take_text-in-Line.ensures in
    let line = last_line (page.standing.lines + 1) page.splitter.place page.splitter.left in
    let follows = took.takes line refl (sym c.in-Line.ensures.1) c.in-Line.ensures.2 in
    let Of : List Line → Type 0 = λ lines. Follows g.T.Taker.takes (g.R.LineReader.format c.args.reader.now) c.args.identity.now lines page new c.args.out.now c.take_text.new.out in
    subst Of (sym (to_come-last page c.requires.last c.in-Line.ensures.0.some))
    (record { behind = λ history at. let b = follows.behind history at in record { done = b.done; standing = b.standing; rows = b.rows; bad = b.bad } })

pub returns-then-pass_overlong-clause-stops : goal.returns-then-pass_overlong-clause-stops
returns-then-pass_overlong-clause-stops g c =
    let page = c.args.page.now in
    let w = c.args.out.now in
    stops_unmoved g.T.Taker.takes g.T.Taker.stops g.met.T.Taker.stops_here (g.R.LineReader.format c.args.reader.now) c.args.identity.now (to_come false page []) page c.pass_overlong.new.page w c.pass_overlong.ensures.taker (g.met.T.Taker.takes_none page.taker w) c.requires.within

pub returns-then-pass_overlong-clause-too_many : goal.returns-then-pass_overlong-clause-too_many
returns-then-pass_overlong-clause-too_many g c =
    let page = c.args.page.now in
    let line = last_line (page.standing.lines + 1) page.splitter.place page.splitter.left in
    let format = g.R.LineReader.format c.args.reader.now in
    let identity = c.args.identity.now in
    let new = c.pass_overlong.new.page in
    let w = c.args.out.now in
    let Of : List Line → Type 0 = λ lines. ExceedsIn g.T.Taker.takes format identity lines page new w w c.lines.result in
    subst Of (sym (to_come-last page c.requires.last c.in-TooLongLine.ensures.0.some))
    (exceeds_overlong g.T.Taker.takes format identity line page new w c.lines.result (sym c.pass_overlong.ensures.lines ∙ sym c.lines.ensures) c.in-TooLongLine.ensures.2
    (g.met.T.Taker.takes_none page.taker w) c.pass_overlong.ensures.taker (c.pass_overlong.ensures.too_many c.if-pass_overlong.true))

pub returns-in_err-take_text-in-Line-clause-too_many : goal.returns-in_err-take_text-in-Line-clause-too_many
returns-in_err-take_text-in-Line-clause-too_many g c =
    let page = c.args.page.now in
    let line = last_line (page.standing.lines + 1) page.splitter.place page.splitter.left in
    let format = g.R.LineReader.format c.args.reader.now in
    let identity = c.args.identity.now in
    let new = c.take_text.new.page in
    let Q : ℕ → Type 0 = λ row. ExceedsIn g.T.Taker.takes format identity (to_come false page []) page new c.args.out.now c.take_text.new.out row in
    handed_on c.from_residual.result _ (λ fault. OnBad fault Q) c.from_residual.ensures.1
    (bad_so _ _ Q
    (λ row so.
    let Of : List Line → Type 0 = λ lines. ExceedsIn g.T.Taker.takes format identity lines page new c.args.out.now c.take_text.new.out row in
    subst Of (sym (to_come-last page c.requires.last c.in-Line.ensures.0.some))
    (record {
      behind = λ history at.
          let s = (so line refl (sym c.in-Line.ensures.1) c.in-Line.ensures.2).behind history at in
          record { front = s.front; line = s.line; rest = s.rest; stands = s.stands; number = s.number; bad = s.bad; taken = s.taken; most = s.most };
    }))
    c.in_err-take_text-in-Line.ensures.too_many)
