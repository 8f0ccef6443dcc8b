use Rattle.std.proofs.Common.{◌+◌, [], refl, sym, ◌∙◌, ap}
use Rattle.log_reading.proofs.Advancing.{exceeds_line}
use Rattle.log_reading.proofs.lines.take_text.Goals as goal

pub returns-in-Err-clause-stops : goal.returns-in-Err-clause-stops
returns-in-Err-clause-stops g c = λ line number text short. record { behind = λ history at. g.met.T.Taker.stops_here _ _ _ _ [] _ (g.met.T.Taker.takes_none _ _) }

pub returns-then-count_bad-clause-too_many : goal.returns-then-count_bad-clause-too_many
returns-then-count_bad-clause-too_many g c = λ line number text short.
    exceeds_line g.T.Taker.takes (g.R.LineReader.format c.args.reader.now) c.args.identity.now line c.args.page.now c.count_bad.new.page c.args.out.now c.line-line.result.now _ _
    (number ∙ ap (λ k. k + 1) (sym c.lines-number.ensures)) (text ∙ sym c.line-line.ensures) short c.in-Ok-Bad.ensures.reading (rw c.in-Ok-Bad.field-0-is refl)
    (g.met.T.Taker.takes_none _ _) c.count_bad.ensures.taker (c.count_bad.ensures.too_many c.if-count_bad.true)
