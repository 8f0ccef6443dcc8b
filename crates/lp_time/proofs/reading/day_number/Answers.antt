use Rattle.std.proofs.Common.{◌≤ℤ◌, pos, arith}
use Rattle.jiff_core.proofs.SignedLemmas.{signed_arith}
use Rattle.std.proofs.lemmas.Int.{ints}
use Rattle.jiff_core.proofs.CalendarLemmas.{days_from_civil-day_count}
use Rattle.lp_time.proofs.ReadingLemmas.{exists, late_day}
use Rattle.lp_time.proofs.reading.day_number.Goals as goal

pub returns-clause-within : goal.returns-clause-within
returns-clause-within c =
    let e = exists c.args.civil c.requires in
    let d = c.date_of.result in
    let late : pos 1 ≤ℤ d.year = omega (arith, signed_arith) in
    let day = late_day d late in
    let count = days_from_civil-day_count d.year d.month d.day in
    (omega (arith, ints), omega (arith, ints))
