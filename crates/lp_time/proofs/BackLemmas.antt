-- A pattern reads back what it wrote.
use Rattle.std.proofs.Common.{◌≡◌, ℕ, zero, suc, ◌<◌, ◌≤◌, true, not, List, [], ◌∷◌, ◌++◌, Some, refl, ◌∙◌, ap, arith}
use Rattle.std.specs.Cmp.{first_so, second_so}
use Rattle.std.specs.Option.{option_and_then}
use Rattle.std.proofs.Math.Seq.{drop-append_seam}
use Rattle.lp_values.specs.declared.civil.Civil.{Civil}
use Rattle.lp_time.specs.declared.field.Field.{Field}
use Rattle.lp_time.specs.declared.field.Field.TheVariants as F
use Rattle.lp_time.specs.declared.piece.Piece.{Piece}
use Rattle.lp_time.specs.declared.piece.Piece.TheVariants.{Padded, Short, MonthName, Other}
use Rattle.lp_time.specs.Readings.{read_onto, taken, with_piece}
use Rattle.lp_time.specs.ReadsBack.{is_clear, may_begin_with_digit}
use Rattle.lp_time.specs.Writings.{number_of, padded_text, written_piece, written}
use Rattle.lp_time.proofs.PieceLemmas.{is_bare, two_back, four_back, short_back, month_back, other_back}

-- numbers that fit their places
pub record Fits (c : Civil) : Type 0 where
  pub year : c.year < 10_000
  pub first_month : 1 ≤ c.month
  pub last_month : c.month ≤ 12
  pub day : c.day < 100
  pub hour : c.hour < 100
  pub minute : c.minute < 100
  pub second : c.second < 100

abbrev pub value_of : Civil → Piece → ℕ
value_of c (Padded field) = number_of c field
value_of c (Short field) = number_of c field
value_of c MonthName = c.month
value_of c (Other character) = 0

-- the parts that pieces have, put onto others
abbrev pub filled : Civil → List Piece → Civil → Civil
filled c [] x = x
filled c (piece ∷ pieces) x = filled c pieces (with_piece piece (value_of c piece) x)

module _ (c : Civil) (fits : Fits c) where
  padded_back : (field : Field) (rest : List ℕ) → taken (Padded field) (padded_text c field ++ rest) ≡ Some (number_of c field, rest)
  padded_back F.Year rest = four_back c.year rest fits.year
  padded_back F.Month rest = let small : c.month < 100 = omega (arith, fits.last_month) in two_back c.month rest small
  padded_back F.Day rest = two_back c.day rest fits.day
  padded_back F.Hour rest = two_back c.hour rest fits.hour
  padded_back F.Minute rest = two_back c.minute rest fits.minute
  padded_back F.Second rest = two_back c.second rest fits.second

  character_back : (bytes rest : List ℕ) → taken (Other bytes) (bytes ++ rest) ≡ Some (0, rest)
  character_back bytes rest = let there = other_back bytes rest in rw (there, drop-append_seam bytes rest) refl

  bare_text : (month : ℕ) (rest : List ℕ) → 1 ≤ month → month ≤ 12 → is_bare (written_piece (record c { month = month }) MonthName ++ rest) ≡ true
  bare_text zero rest low high = absurd (omega arith)
  bare_text (suc zero) rest low high = refl
  bare_text (suc (suc zero)) rest low high = refl
  bare_text (suc (suc (suc zero))) rest low high = refl
  bare_text (suc (suc (suc (suc zero)))) rest low high = refl
  bare_text (suc (suc (suc (suc (suc zero))))) rest low high = refl
  bare_text (suc (suc (suc (suc (suc (suc zero)))))) rest low high = refl
  bare_text (suc (suc (suc (suc (suc (suc (suc zero))))))) rest low high = refl
  bare_text (suc (suc (suc (suc (suc (suc (suc (suc zero)))))))) rest low high = refl
  bare_text (suc (suc (suc (suc (suc (suc (suc (suc (suc zero))))))))) rest low high = refl
  bare_text (suc (suc (suc (suc (suc (suc (suc (suc (suc (suc zero)))))))))) rest low high = refl
  bare_text (suc (suc (suc (suc (suc (suc (suc (suc (suc (suc (suc zero))))))))))) rest low high = refl
  bare_text (suc (suc (suc (suc (suc (suc (suc (suc (suc (suc (suc (suc zero)))))))))))) rest low high = refl
  bare_text (suc (suc (suc (suc (suc (suc (suc (suc (suc (suc (suc (suc (suc m))))))))))))) rest low high = absurd (omega arith)

  bare_rest : (pieces : List Piece) → not (may_begin_with_digit pieces) ≡ true → is_bare (written pieces c) ≡ true
  bare_rest [] h = refl
  bare_rest (Padded field ∷ pieces) h = cc
  bare_rest (Short field ∷ pieces) h = cc
  bare_rest (MonthName ∷ pieces) h = bare_text c.month (written pieces c) fits.first_month fits.last_month
  bare_rest (Other [] ∷ pieces) h = cc
  bare_rest (Other (b ∷ bs) ∷ pieces) h = h

  short_one : (field : Field) (pieces : List Piece) → is_clear (Short field ∷ pieces) ≡ true
      → (taken (Short field) (written_piece c (Short field) ++ written pieces c) ≡ Some (number_of c field, written pieces c)) × (is_clear pieces ≡ true)
  short_one F.Year pieces h = cc
  short_one F.Month pieces h = let small : c.month < 100 = omega (arith, fits.last_month) in (short_back c.month (written pieces c) small (bare_rest pieces (first_so (not (may_begin_with_digit pieces)) (is_clear pieces) h)), second_so (not (may_begin_with_digit pieces)) (is_clear pieces) h)
  short_one F.Day pieces h = (short_back c.day (written pieces c) fits.day (bare_rest pieces (first_so (not (may_begin_with_digit pieces)) (is_clear pieces) h)), second_so (not (may_begin_with_digit pieces)) (is_clear pieces) h)
  short_one F.Hour pieces h = (short_back c.hour (written pieces c) fits.hour (bare_rest pieces (first_so (not (may_begin_with_digit pieces)) (is_clear pieces) h)), second_so (not (may_begin_with_digit pieces)) (is_clear pieces) h)
  short_one F.Minute pieces h = (short_back c.minute (written pieces c) fits.minute (bare_rest pieces (first_so (not (may_begin_with_digit pieces)) (is_clear pieces) h)), second_so (not (may_begin_with_digit pieces)) (is_clear pieces) h)
  short_one F.Second pieces h = (short_back c.second (written pieces c) fits.second (bare_rest pieces (first_so (not (may_begin_with_digit pieces)) (is_clear pieces) h)), second_so (not (may_begin_with_digit pieces)) (is_clear pieces) h)

  -- a piece takes what it wrote
  piece_back : (piece : Piece) (pieces : List Piece) → is_clear (piece ∷ pieces) ≡ true
      → (taken piece (written_piece c piece ++ written pieces c) ≡ Some (value_of c piece, written pieces c)) × (is_clear pieces ≡ true)
  piece_back (Padded field) pieces h = (padded_back field (written pieces c), h)
  piece_back (Short field) pieces h = short_one field pieces h
  piece_back MonthName pieces h = (month_back c.month (written pieces c) fits.first_month fits.last_month, h)
  piece_back (Other bytes) pieces h = (character_back bytes (written pieces c), h)

  -- and all of them fill in the parts that they have
  pub pieces_back : (pieces : List Piece) (x : Civil) → is_clear pieces ≡ true → read_onto x pieces (written pieces c) ≡ Some (filled c pieces x)
  unfolding read_onto
  pieces_back [] x h = refl
  pieces_back (piece ∷ pieces) x h =
      let one = piece_back piece pieces h in
      ap (option_and_then (λ (f : ℕ × List ℕ). read_onto (with_piece piece f.0 x) pieces f.1)) one.0 ∙ pieces_back pieces (with_piece piece (value_of c piece) x) one.1
