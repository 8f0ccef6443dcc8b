use Rattle.std.proofs.Common.{FitsSigned, w64, rules}
use Rattle.std.proofs.lemmas.Int.{to_z-of_z}
use Rattle.lp_time.proofs.ReadsBackLemmas.{reads_back_of}
use Rattle.lp_time.proofs.writing.write_stamp.Goals as goal

pub returns-in-Ok-clause-reads_back : goal.returns-in-Ok-clause-reads_back
returns-in-Ok-clause-reads_back c =
    let fits : FitsSigned w64 c.args.stamp.seconds = search rules in
    let is = simp to_z-of_z at c.of.ensures.value in
    let back = simp to_z-of_z at c.of.ensures.back in
    let e = c.of.ensures in
    reads_back_of c.args.stamp c.args.pattern.now c.of.result is
    (record { first_year = e.year.0; last_year = e.year.1; first_month = e.month.0; last_month = e.month.1; first_day = e.day.0; last_day = e.day.1; hours = e.time.0; minutes = e.time.1; seconds = e.time.2 }) back

pub returns-in-Err-clause-reads_back : goal.returns-in-Err-clause-reads_back
returns-in-Err-clause-reads_back c =
    let fits : FitsSigned w64 c.args.stamp.seconds = search rules in
    let is = simp to_z-of_z at c.of.ensures.value in
    let back = simp to_z-of_z at c.of.ensures.back in
    let e = c.of.ensures in
    reads_back_of c.args.stamp c.args.pattern.now c.of.result is
    (record { first_year = e.year.0; last_year = e.year.1; first_month = e.month.0; last_month = e.month.1; first_day = e.day.0; last_day = e.day.1; hours = e.time.0; minutes = e.time.1; seconds = e.time.2 }) back
