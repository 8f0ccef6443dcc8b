use Rattle.std.proofs.Common.{◌≡◌, ◌≤◌, ◌<◌, ◌^◌, pos, w16, to_z, arith, subst, sym}
use Rattle.std.proofs.lemmas.Int.{to_z_pos, ints}
use Rattle.jiff_core.specs.Calendar.{days_in_month}
use Rattle.lp_time.proofs.ReadingLemmas.{exists}
use Rattle.lp_time.proofs.reading.date_of.Goals as goal

pub invariant_of-result : goal.invariant_of-result
invariant_of-result c =
    let e = exists c.args.civil c.requires in
    let small : c.args.civil.year < 2 ^ 15 = omega arith in
    let year : to_z w16 c.args.civil.year ≡ pos c.args.civil.year = to_z_pos w16 c.args.civil.year small in
    record {
      year_in = (omega (arith, ints), omega (arith, ints));
      month_in = (e.first_month, e.last_month);
      day_in = (e.first_day, subst (λ z. c.args.civil.day ≤ days_in_month z c.args.civil.month) (sym year) e.last_day);
    }
