-- Reading a text piece by piece.
use Rattle.std.proofs.Common.{◌≡◌, ℕ, suc, ◌+◌, ◌<◌, ◌≤◌, true, false, List, [], ◌∷◌, length, drop, get_or, Some, None, refl, sym, ◌∙◌, ap, arith, pos, ◌≤ℤ◌, add-one, drop-cons, ◌==◌, if◌then◌else◌}
use Rattle.std.proofs.Math.Dec.{eqb-suc-zero}
use Rattle.std.proofs.Math.ListN.{drop_of_length-le}
use Rattle.std.proofs.lemmas.Bool.Decides.{nat_tests}
use Rattle.std.specs.Option.{option_and_then}
use Rattle.jiff_core.specs.Calendar.{days_in_month, day_count}
use Rattle.jiff_core.specs.declared.civil.date.Date.{Date}
use Rattle.jiff_core.proofs.CalendarLemmas.{day_count-later_year, day_count-day_of_year}
use Rattle.jiff_core.proofs.MarchLemmas.{day_count-early}
use Rattle.jiff_core.proofs.SignedLemmas.{signed_arith}
use Rattle.lp_values.specs.declared.civil.Civil.{Civil}
use Rattle.lp_time.specs.declared.piece.Piece.{Piece}
use Rattle.lp_time.specs.Readings.{read_onto, taken, with_piece, is_existing}

-- what an existing date and time says
pub record Exists (civil : Civil) : Type 0 where
  pub first_year : 1 ≤ civil.year
  pub last_year : civil.year ≤ 9999
  pub first_month : 1 ≤ civil.month
  pub last_month : civil.month ≤ 12
  pub first_day : 1 ≤ civil.day
  pub last_day : civil.day ≤ days_in_month (pos civil.year) civil.month
  pub hours : civil.hour < 24
  pub minutes : civil.minute < 60
  pub seconds : civil.second < 60

pub exists : (civil : Civil) → is_existing civil ≡ true → Exists civil
exists civil h = record {
  first_year = grind (arith, nat_tests);
  last_year = grind (arith, nat_tests);
  first_month = grind (arith, nat_tests);
  last_month = grind (arith, nat_tests);
  first_day = grind (arith, nat_tests);
  last_day = grind (arith, nat_tests);
  hours = grind (arith, nat_tests);
  minutes = grind (arith, nat_tests);
  seconds = grind (arith, nat_tests);
}

module _ (civil : Civil) (pieces : List Piece) (i : ℕ) (piece : Piece) (text : List ℕ) (lt : i < length pieces) (is : piece ≡ get_or pieces i piece) where
  cut : drop i pieces ≡ piece ∷ drop (i + 1) pieces
  cut = rw add-one (drop-cons pieces i piece lt ∙ ap (λ p. p ∷ drop (suc i) pieces) (sym is))

  -- a piece that is taken
  pub read_on : (front : ℕ × List ℕ) → Some front ≡ taken piece text → read_onto civil (drop i pieces) text ≡ read_onto (with_piece piece front.0 civil) (drop (i + 1) pieces) front.1
  unfolding read_onto
  read_on front took = ap (λ ps. read_onto civil ps text) cut ∙ ap (option_and_then (λ (f : ℕ × List ℕ). read_onto (with_piece piece f.0 civil) (drop (i + 1) pieces) f.1)) (sym took)

  -- a piece that isn't
  pub read_none : None ≡ taken piece text → read_onto civil (drop i pieces) text ≡ None
  unfolding read_onto
  read_none took = ap (λ ps. read_onto civil ps text) cut ∙ ap (option_and_then (λ (f : ℕ × List ℕ). read_onto (with_piece piece f.0 civil) (drop (i + 1) pieces) f.1)) (sym took)

-- behind the last piece
pub read_end : (civil : Civil) (pieces : List Piece) (i : ℕ) (text : List ℕ) → length pieces ≤ i → read_onto civil (drop i pieces) text ≡ (if length text == 0 then Some civil else None)
unfolding read_onto
read_end civil pieces i [] past = ap (λ ps. read_onto civil ps []) (drop_of_length-le pieces past)
read_end civil pieces i (c ∷ text) past = let long : (length (c ∷ text) == 0) ≡ false = eqb-suc-zero (length text) in rw long (ap (λ ps. read_onto civil ps (c ∷ text)) (drop_of_length-le pieces past))

-- the years from 1 on begin at the first day of the year 1 or later
pub late_day : (d : Date) → pos 1 ≤ℤ d.year → 3_652_791 ≤ day_count d.year d.month d.day
late_day d late =
    let zero_year : day_count (pos 0) 1 1 ≡ 3_652_425 = day_count-early (pos 0) 9999 1 1 refl (omega arith) (omega arith) (omega arith) in
    let later = day_count-later_year (pos 0) d.year (omega (arith, signed_arith)) (omega (arith, signed_arith)) in
    let first = day_count-day_of_year d.year d.month d.day d.day_in.0 in
    omega (arith, d.day_in.0)
