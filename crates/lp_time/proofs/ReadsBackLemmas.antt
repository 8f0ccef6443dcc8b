-- A stamp is read back from what a pattern with all its items writes.
use Rattle.std.proofs.Common.{◌≡◌, ℕ, Bool, true, false, ◌&&◌, ◌||◌, List, [], ◌∷◌, Some, refl, ◌∙◌, ap, arith, ℤ, pos, negsuc, ◌+ℤ◌, ◌≤ℤ◌, ◌<ℤ◌, subst, le-leb, lt-ltb, if◌then◌else◌, nat_lt, nat_le}
use Rattle.std.proofs.lemmas.Int.{ints}
use Rattle.std.specs.Cmp.{first_so, second_so}
use Rattle.std.specs.Option.{option_and_then, option_map_or}
use Rattle.jiff_core.specs.Calendar.{days_in_month}
use Rattle.jiff_core.proofs.CalendarLemmas.{days_in_month_bounds}
use Rattle.lp_values.specs.declared.civil.Civil.{Civil}
use Rattle.lp_values.specs.declared.part.Part.{Part}
use Rattle.lp_values.specs.declared.part.Part.TheVariants.{Date, Time, Both}
use Rattle.lp_values.specs.declared.stamp.Stamp.{Stamp}
use Rattle.lp_values.specs.Civil.{civil_of, day_seconds, time_seconds}
use Rattle.lp_values.specs.Moments.{second_of_day}
use Rattle.lp_time.specs.declared.field.Field.{Field}
use Rattle.lp_time.specs.declared.field.Field.TheVariants as F
use Rattle.lp_time.specs.declared.piece.Piece.{Piece}
use Rattle.lp_time.specs.declared.piece.Piece.TheVariants.{Padded, Short, MonthName, Other}
use Rattle.lp_time.specs.Patterns.{field_of, is_same_field, has_field}
use Rattle.lp_time.specs.Readings.{with_field, with_piece, is_existing, pattern_part, has_date, has_time, missing_parts, unix_seconds, existing_seconds, seconds_in}
use Rattle.lp_time.specs.ReadsBack.{ReadsBack, has_all, has_whole_date, has_whole_time, is_clear}
use Rattle.lp_time.specs.Writings.{number_of, written}
use Rattle.lp_time.proofs.BackLemmas.{Fits, value_of, filled, pieces_back}
use Rattle.lp_time.proofs.DayLemmas.{first_second}
use Rattle.lp_time.proofs.ReadingLemmas.{Exists}

-- a number where a test holds, and else another
abbrev chosen : Bool → ℕ → ℕ → ℕ
chosen b n m = if b then n else m

chosen_true : (b : Bool) (n m k : ℕ) → b ≡ true → k ≡ chosen b n m → k ≡ n
chosen_true true n m k h e = e
chosen_true false n m k h e = cc

chosen_false : (b : Bool) (n m k : ℕ) → b ≡ false → k ≡ chosen b n m → k ≡ m
chosen_false true n m k h e = cc
chosen_false false n m k h e = e

merged : (a b : Bool) (n m k : ℕ) → k ≡ chosen a n m → chosen b n k ≡ chosen (a || b) n m
merged true true n m k e = refl
merged true false n m k e = e
merged false true n m k e = refl
merged false false n m k e = e

left_false : (a b : Bool) → (a || b) ≡ false → a ≡ false
left_false true b h = h
left_false false b h = refl

right_false : (a b : Bool) → (a || b) ≡ false → b ≡ false
right_false true b h = cc
right_false false b h = h

module _ (c : Civil) where
  same_place : (g f : Field) (x : Civil) → number_of (with_field g (number_of c g) x) f ≡ chosen (is_same_field f g) (number_of c f) (number_of x f)
  same_place F.Year F.Year x = refl
  same_place F.Year F.Month x = refl
  same_place F.Year F.Day x = refl
  same_place F.Year F.Hour x = refl
  same_place F.Year F.Minute x = refl
  same_place F.Year F.Second x = refl
  same_place F.Month F.Year x = refl
  same_place F.Month F.Month x = refl
  same_place F.Month F.Day x = refl
  same_place F.Month F.Hour x = refl
  same_place F.Month F.Minute x = refl
  same_place F.Month F.Second x = refl
  same_place F.Day F.Year x = refl
  same_place F.Day F.Month x = refl
  same_place F.Day F.Day x = refl
  same_place F.Day F.Hour x = refl
  same_place F.Day F.Minute x = refl
  same_place F.Day F.Second x = refl
  same_place F.Hour F.Year x = refl
  same_place F.Hour F.Month x = refl
  same_place F.Hour F.Day x = refl
  same_place F.Hour F.Hour x = refl
  same_place F.Hour F.Minute x = refl
  same_place F.Hour F.Second x = refl
  same_place F.Minute F.Year x = refl
  same_place F.Minute F.Month x = refl
  same_place F.Minute F.Day x = refl
  same_place F.Minute F.Hour x = refl
  same_place F.Minute F.Minute x = refl
  same_place F.Minute F.Second x = refl
  same_place F.Second F.Year x = refl
  same_place F.Second F.Month x = refl
  same_place F.Second F.Day x = refl
  same_place F.Second F.Hour x = refl
  same_place F.Second F.Minute x = refl
  same_place F.Second F.Second x = refl

  abbrev stands : Piece → Field → Bool
  stands piece field = option_map_or (is_same_field field) (field_of piece) false

  piece_number : (piece : Piece) (f : Field) (x : Civil) → number_of (with_piece piece (value_of c piece) x) f ≡ chosen (stands piece f) (number_of c f) (number_of x f)
  piece_number (Padded g) f x = same_place g f x
  piece_number (Short g) f x = same_place g f x
  piece_number MonthName f x = same_place F.Month f x
  piece_number (Other bytes) f x = refl

  -- a part comes from the pieces that stand for it
  field_filled : (pieces : List Piece) (x : Civil) (f : Field) → number_of (filled c pieces x) f ≡ chosen (has_field pieces f) (number_of c f) (number_of x f)
  field_filled [] x f = refl
  field_filled (piece ∷ pieces) x f =
      let on = with_piece piece (value_of c piece) x in
      field_filled pieces on f ∙ merged (stands piece f) (has_field pieces f) (number_of c f) (number_of x f) (number_of on f) (piece_number piece f x)

same_civil : (a b : Civil) → a.year ≡ b.year → a.month ≡ b.month → a.day ≡ b.day → a.hour ≡ b.hour → a.minute ≡ b.minute → a.second ≡ b.second → a ≡ b
same_civil a b p q r s t u = λ i. record { year = p i; month = q i; day = r i; hour = s i; minute = t i; second = u i }

existing_true : (v : Civil) → Exists v → is_existing v ≡ true
existing_true v e =
    let a = le-leb 1 v.year e.first_year in
    let b = le-leb v.year 9999 e.last_year in
    let d = le-leb 1 v.month e.first_month in
    let f = le-leb v.month 12 e.last_month in
    let g = le-leb 1 v.day e.first_day in
    let h = le-leb v.day (days_in_month (pos v.year) v.month) e.last_day in
    let k = lt-ltb v.hour 24 e.hours in
    let l = lt-ltb v.minute 60 e.minutes in
    let m = lt-ltb v.second 60 e.seconds in
    all_nine (nat_le 1 v.year) (nat_le v.year 9999) (nat_le 1 v.month) (nat_le v.month 12) (nat_le 1 v.day) (nat_le v.day (days_in_month (pos v.year) v.month)) (nat_lt v.hour 24) (nat_lt v.minute 60) (nat_lt v.second 60) a b d f g h k l m
  where
    all_nine : (a b d f g h k l m : Bool) → a ≡ true → b ≡ true → d ≡ true → f ≡ true → g ≡ true → h ≡ true → k ≡ true → l ≡ true → m ≡ true
        → (a && b && d && f && g && h && k && l && m) ≡ true
    all_nine a b d f g h k l m p q r s t u v w x = rw (p, q, r, s, t, u, v, w, x) refl

date_alone : (a b : Bool) → (if a then (if b then Both else Date) else Time) ≡ Date → b ≡ false
date_alone true true h = cc
date_alone true false h = refl
date_alone false true h = cc
date_alone false false h = refl

time_alone : (a b : Bool) → (if a then (if b then Both else Date) else Time) ≡ Time → a ≡ false
time_alone true true h = cc
time_alone true false h = cc
time_alone false b h = refl

time_is : (s : ℤ) → pos 0 ≤ℤ s → s <ℤ pos 86_400 → pos (second_of_day s) ≡ s
time_is (pos n) low high = ap (λ (m : ℕ). pos m) (first_second n (omega (arith, ints)))
time_is (negsuc n) low high = absurd (omega (arith, ints))

abbrev kept_date : Civil → Civil
kept_date c = record { year = c.year; month = c.month; day = c.day; hour = 0; minute = 0; second = 0 }

abbrev kept_time : Civil → Civil
kept_time c = record { year = 2000; month = 1; day = 1; hour = c.hour; minute = c.minute; second = c.second }

existing_some : (part : Part) (v : Civil) (s : ℤ) → Exists v → unix_seconds part v ≡ s → existing_seconds part v ≡ Some s
existing_some part v s e is = let yes_one = existing_true v e in rw yes_one (ap Some is)

module _ (s : ℤ) (fits : Fits (civil_of s)) (there : Exists (civil_of s)) (back : day_seconds (civil_of s) +ℤ pos (time_seconds (civil_of s)) ≡ s) (pieces : List Piece) (clear : is_clear pieces ≡ true) where
  abbrev civil : Civil
  civil = civil_of s

  abbrev found : Civil
  found = filled civil pieces missing_parts

  set : (f : Field) → has_field pieces f ≡ true → number_of found f ≡ number_of civil f
  set f h = chosen_true (has_field pieces f) (number_of civil f) (number_of missing_parts f) (number_of found f) h (field_filled civil pieces missing_parts f)

  unset : (f : Field) → has_field pieces f ≡ false → number_of found f ≡ number_of missing_parts f
  unset f h = chosen_false (has_field pieces f) (number_of civil f) (number_of missing_parts f) (number_of found f) h (field_filled civil pieces missing_parts f)

  clock : time_seconds civil ≡ second_of_day s
  clock = omega arith

  finish : (part : Part) (v : Civil) → pattern_part pieces ≡ part → found ≡ v → existing_seconds part v ≡ Some s → seconds_in pieces (written pieces civil) ≡ Some s
  finish part v is same some =
      ap (option_and_then (existing_seconds (pattern_part pieces))) (pieces_back civil fits pieces missing_parts clear)
      ∙ (ap (λ (p : Part). existing_seconds p found) is ∙ (ap (existing_seconds part) same ∙ some))

  module _ (h : has_whole_date pieces ≡ true) where
    year_set : has_field pieces F.Year ≡ true
    year_set = first_so (has_field pieces F.Year) (has_field pieces F.Month) (first_so (has_field pieces F.Year && has_field pieces F.Month) (has_field pieces F.Day) h)

    month_set : has_field pieces F.Month ≡ true
    month_set = second_so (has_field pieces F.Year) (has_field pieces F.Month) (first_so (has_field pieces F.Year && has_field pieces F.Month) (has_field pieces F.Day) h)

    day_set : has_field pieces F.Day ≡ true
    day_set = second_so (has_field pieces F.Year && has_field pieces F.Month) (has_field pieces F.Day) h

  module _ (h : has_whole_time pieces ≡ true) where
    hour_set : has_field pieces F.Hour ≡ true
    hour_set = first_so (has_field pieces F.Hour) (has_field pieces F.Minute) (first_so (has_field pieces F.Hour && has_field pieces F.Minute) (has_field pieces F.Second) h)

    minute_set : has_field pieces F.Minute ≡ true
    minute_set = second_so (has_field pieces F.Hour) (has_field pieces F.Minute) (first_so (has_field pieces F.Hour && has_field pieces F.Minute) (has_field pieces F.Second) h)

    second_set : has_field pieces F.Second ≡ true
    second_set = second_so (has_field pieces F.Hour && has_field pieces F.Minute) (has_field pieces F.Second) h

  reads_both : pattern_part pieces ≡ Both → has_whole_date pieces ≡ true → has_whole_time pieces ≡ true → seconds_in pieces (written pieces civil) ≡ Some s
  reads_both is date time =
      finish Both civil is
      (same_civil found civil (set F.Year (year_set date)) (set F.Month (month_set date)) (set F.Day (day_set date)) (set F.Hour (hour_set time)) (set F.Minute (minute_set time)) (set F.Second (second_set time)))
      (existing_some Both civil s there back)

  reads_date : pattern_part pieces ≡ Date → has_whole_date pieces ≡ true → second_of_day s ≡ 0 → seconds_in pieces (written pieces civil) ≡ Some s
  reads_date is date whole =
      let none = date_alone (has_date pieces) (has_time pieces) is in
      let hours_minutes = left_false (has_field pieces F.Hour || has_field pieces F.Minute) (has_field pieces F.Second) none in
      let time : time_seconds civil ≡ 0 = clock ∙ whole in
      let seconds : day_seconds civil ≡ s = omega (arith, ints, back) in
      finish Date (kept_date civil) is
      (same_civil found (kept_date civil) (set F.Year (year_set date)) (set F.Month (month_set date)) (set F.Day (day_set date))
      (unset F.Hour (left_false (has_field pieces F.Hour) (has_field pieces F.Minute) hours_minutes)) (unset F.Minute (right_false (has_field pieces F.Hour) (has_field pieces F.Minute) hours_minutes))
      (unset F.Second (right_false (has_field pieces F.Hour || has_field pieces F.Minute) (has_field pieces F.Second) none)))
      (existing_some Date (kept_date civil) s (record { first_year = there.first_year; last_year = there.last_year; first_month = there.first_month; last_month = there.last_month; first_day = there.first_day; last_day = there.last_day; hours = omega arith; minutes = omega arith; seconds = omega arith }) seconds)

  reads_time : pattern_part pieces ≡ Time → has_whole_time pieces ≡ true → pos 0 ≤ℤ s → s <ℤ pos 86_400 → seconds_in pieces (written pieces civil) ≡ Some s
  reads_time is time low high =
      let none = time_alone (has_date pieces) (has_time pieces) is in
      let years_months = left_false (has_field pieces F.Year || has_field pieces F.Month) (has_field pieces F.Day) none in
      let seconds : pos (time_seconds civil) ≡ s = ap (λ (m : ℕ). pos m) clock ∙ time_is s low high in
      finish Time (kept_time civil) is
      (same_civil found (kept_time civil)
      (unset F.Year (left_false (has_field pieces F.Year) (has_field pieces F.Month) years_months)) (unset F.Month (right_false (has_field pieces F.Year) (has_field pieces F.Month) years_months))
      (unset F.Day (right_false (has_field pieces F.Year || has_field pieces F.Month) (has_field pieces F.Day) none))
      (set F.Hour (hour_set time)) (set F.Minute (minute_set time)) (set F.Second (second_set time)))
      (existing_some Time (kept_time civil) s (record { first_year = omega arith; last_year = omega arith; first_month = omega arith; last_month = omega arith; first_day = omega arith; last_day = omega arith; hours = there.hours; minutes = there.minutes; seconds = there.seconds }) seconds)

module _ (stamp : Stamp) (pieces : List Piece) where
  pub reads_back : (fits : Fits (civil_of stamp.seconds)) (there : Exists (civil_of stamp.seconds)) → day_seconds (civil_of stamp.seconds) +ℤ pos (time_seconds (civil_of stamp.seconds)) ≡ stamp.seconds → ReadsBack pieces stamp
  reads_back fits there back part all clear = by stamp.part refl part all
    where
      by : (p : Part) → stamp.part ≡ p → pattern_part pieces ≡ p → has_all p pieces ≡ true → seconds_in pieces (written pieces (civil_of stamp.seconds)) ≡ Some stamp.seconds
      by Date e is h = reads_date stamp.seconds fits there back pieces clear is h (stamp.exists.whole_day e)
      by Time e is h = let first = stamp.exists.first_day e in reads_time stamp.seconds fits there back pieces clear is h first.0 first.1
      by Both e is h = reads_both stamp.seconds fits there back pieces clear is (first_so (has_whole_date pieces) (has_whole_time pieces) h) (second_so (has_whole_date pieces) (has_whole_time pieces) h)

fits_of : (v : Civil) → Exists v → Fits v
fits_of v e =
    let days = days_in_month_bounds (pos v.year) v.month in
    record { year = omega (arith, e.last_year); first_month = e.first_month; last_month = e.last_month; day = omega (arith, e.last_day); hour = omega (arith, e.hours); minute = omega (arith, e.minutes); second = omega (arith, e.seconds) }

-- the same, from the civil date and time that was written
pub reads_back_of : (stamp : Stamp) (pieces : List Piece) (v : Civil) → v ≡ civil_of stamp.seconds → Exists v → day_seconds v +ℤ pos (time_seconds v) ≡ stamp.seconds → ReadsBack pieces stamp
reads_back_of stamp pieces v is there back =
    reads_back stamp pieces (subst Fits is (fits_of v there)) (subst Exists is there) (subst (λ (c : Civil). day_seconds c +ℤ pos (time_seconds c) ≡ stamp.seconds) is back)
