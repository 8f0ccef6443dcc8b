use Rattle.std.proofs.Common.{◌+◌, ℕ, Bool, [], refl, sym, ◌∙◌}
use Rattle.std.specs.List.{before_first}
use Rattle.lp_model.specs.Lines.{is_lf, ended_line}
use Rattle.log_reading.specs.Page.{OnBad, ExceedsWithin}
use Rattle.lp_model.proofs.Results.{on_err}
use Rattle.log_reading.proofs.Advancing.{advances_line, follows_overlong, stops_in_line, stops_one, stops_within_unmoved, exceeds_overlong, exceeds_in_line}
use Rattle.log_reading.proofs.Faults.{handed_on, bad_so}
use Rattle.log_reading.proofs.lines.take_next.Goals as goal

pub returns-in_err-take_text-in-Line-clause-stops : goal.returns-in_err-take_text-in-Line-clause-stops
returns-in_err-take_text-in-Line-clause-stops g c = on_err _ c.from_residual.result (λ waits.
    let page = c.args.page.now in
    let line = ended_line (page.standing.lines + 1) page.splitter.place (before_first is_lf page.splitter.left) in
    let stopped = c.in_err-take_text-in-Line.ensures.stops line refl (sym c.in-Line.ensures.1) c.in-Line.ensures.2 in
    let format = g.R.LineReader.format c.args.reader.now in
    stops_in_line g.T.Taker.stops format c.args.identity.now waits page c.take_text.new.page c.next_line.new.self _ _ c.in-Line.ensures.0
    (stops_one g.T.Taker.stops format c.args.identity.now line page c.take_text.new.page _ _ c.requires.within (λ history at. stopped.behind history at)))

pub returns-else-pass_overlong-clause-advances : goal.returns-else-pass_overlong-clause-advances
returns-else-pass_overlong-clause-advances g c = λ waits.
    let page = c.args.page.now in
    let new = c.pass_overlong.new.page in
    let passed = c.pass_overlong.ensures in
    let w = c.args.out.now in
    let line = ended_line (page.standing.lines + 1) page.splitter.place (before_first is_lf page.splitter.left) in
    advances_line g.T.Taker.takes (g.R.LineReader.format c.args.reader.now) c.args.identity.now waits page new c.next_line.new.self w w c.in-TooLongLine.ensures.0 passed.splitter passed.lines
    (follows_overlong g.T.Taker.takes (g.R.LineReader.format c.args.reader.now) c.args.identity.now line page new w (g.met.T.Taker.takes_none page.taker w) c.in-TooLongLine.ensures.2 passed.taker passed.lines passed.columns passed.rows passed.bad)

pub returns-in_ok-take_text-in-Line-clause-advances : goal.returns-in_ok-take_text-in-Line-clause-advances
returns-in_ok-take_text-in-Line-clause-advances g c = λ waits.
    let page = c.args.page.now in
    let new = c.take_text.new.page in
    let took = c.in_ok-take_text-in-Line.ensures in
    let line = ended_line (page.standing.lines + 1) page.splitter.place (before_first is_lf page.splitter.left) in
    let follows = took.takes line refl (sym c.in-Line.ensures.1) c.in-Line.ensures.2 in
    advances_line g.T.Taker.takes (g.R.LineReader.format c.args.reader.now) c.args.identity.now waits page new c.next_line.new.self _ _ c.in-Line.ensures.0 took.splitter took.lines
    (record { behind = λ history at. let b = follows.behind history at in record { done = b.done; standing = b.standing; rows = b.rows; bad = b.bad } })

pub returns-then-pass_overlong-clause-stops : goal.returns-then-pass_overlong-clause-stops
returns-then-pass_overlong-clause-stops g c = λ waits.
    let page = c.args.page.now in
    let w = c.args.out.now in
    stops_within_unmoved g.T.Taker.takes g.T.Taker.stops g.met.T.Taker.stops_here (g.R.LineReader.format c.args.reader.now) c.args.identity.now waits [] page c.pass_overlong.new.page w c.pass_overlong.ensures.taker (g.met.T.Taker.takes_none page.taker w) c.requires.within

pub returns-then-pass_overlong-clause-too_many : goal.returns-then-pass_overlong-clause-too_many
returns-then-pass_overlong-clause-too_many g c = λ waits.
    let page = c.args.page.now in
    let line = ended_line (page.standing.lines + 1) page.splitter.place (before_first is_lf page.splitter.left) in
    let format = g.R.LineReader.format c.args.reader.now in
    let new = c.pass_overlong.new.page in
    let w = c.args.out.now in
    exceeds_in_line g.T.Taker.takes format c.args.identity.now waits page new c.next_line.new.self w w _ c.in-TooLongLine.ensures.0
    (exceeds_overlong g.T.Taker.takes format c.args.identity.now line page new w c.lines.result (sym c.pass_overlong.ensures.lines ∙ sym c.lines.ensures) c.in-TooLongLine.ensures.2
    (g.met.T.Taker.takes_none page.taker w) c.pass_overlong.ensures.taker (c.pass_overlong.ensures.too_many c.if-pass_overlong.true))

pub returns-in_err-take_text-in-Line-clause-too_many : goal.returns-in_err-take_text-in-Line-clause-too_many
returns-in_err-take_text-in-Line-clause-too_many g c =
    let page = c.args.page.now in
    let line = ended_line (page.standing.lines + 1) page.splitter.place (before_first is_lf page.splitter.left) in
    let format = g.R.LineReader.format c.args.reader.now in
    let identity = c.args.identity.now in
    let new = c.take_text.new.page in
    let Q : ℕ → Type 0 = λ row. (waits : Bool) → ExceedsWithin g.T.Taker.takes format identity waits [] page new c.args.out.now c.take_text.new.out row in
    handed_on c.from_residual.result _ (λ fault. OnBad fault Q) c.from_residual.ensures.1
    (bad_so _ _ Q
    (λ row so waits. exceeds_in_line g.T.Taker.takes format identity waits page new c.next_line.new.self _ _ row c.in-Line.ensures.0
    (record {
      behind = λ history at.
          let s = (so line refl (sym c.in-Line.ensures.1) c.in-Line.ensures.2).behind history at in
          record { front = s.front; line = s.line; rest = s.rest; stands = s.stands; number = s.number; bad = s.bad; taken = s.taken; most = s.most };
    }))
    c.in_err-take_text-in-Line.ensures.too_many)
