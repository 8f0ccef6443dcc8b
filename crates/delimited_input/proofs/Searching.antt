-- What searches of a line tell.
use Rattle.std.proofs.Common.{◌≡◌, ℕ, suc, ◌<◌, ◌≤◌, Bool, true, false, List, [], ◌∷◌, length, get_or, unwrap_or, Option, Some, None, is_some, refl, sym, ◌∙◌, arith, inl, inr}
use Rattle.std.proofs.lemmas.Bool.{false_from_ne_true, cases_Bool}
use Rattle.std.proofs.lemmas.List.Folds.{list_any_at}
use Rattle.std.proofs.lemmas.List.Sums.{position_or_len_is}
use Rattle.std.specs.List.{list_any, position_or_len, AllByRecursion}
use Rattle.std.proofs.lemmas.Bool.Decides.{nat_tests}
use Rattle.delimited_input.proofs.Places.{IsInLine}
use Rattle.memchr.specs.Find.{IsFirstByte, is_byte, is_byte2}
use Rattle.delimited_input.specs.Lines.{is_broken, ends_lines}

none_passes : (test : ℕ → Bool) (xs : List ℕ) → ((k : ℕ) → k < length xs → test (get_or xs k 0) ≡ false) → list_any test xs ≡ false
none_passes test [] each = refl
none_passes test (x ∷ xs) each = let first : test x ≡ false = each 0 (omega arith) in rw first (none_passes test xs (λ k lt. each (suc k) (omega arith)))

found_nothing : (test : ℕ → Bool) (line : List ℕ) (r : Option ℕ) → IsFirstByte test line r → is_some r ≡ false → list_any test line ≡ false
found_nothing test line None nowhere e = none_passes test line (λ k lt. false_from_ne_true _ (nowhere k (omega arith) lt))
found_nothing test line (Some at) first e = absurd cc

found_some : (test : ℕ → Bool) (line : List ℕ) (r : Option ℕ) → IsFirstByte test line r → is_some r ≡ true → list_any test line ≡ true
found_some test line None nowhere e = absurd cc
found_some test line (Some at) first e = list_any_at test line at 0 first.0.high first.1

-- whether a line has a line's end inside
pub broken_told : (line : List ℕ) (r : Option ℕ) → IsFirstByte (is_byte2 13 10) line r → is_some r ≡ is_broken line
unfolding is_broken
broken_told line r found =
    elim (cases_Bool (is_some r)) [
      | inl some ↦ some ∙ sym (found_some ends_lines line r found some)
      | inr none ↦ none ∙ sym (found_nothing ends_lines line r found none)
    ]

-- how far the first of some bytes is
pub length_found : (separator : ℕ) (bytes : List ℕ) (r : Option ℕ) → IsFirstByte (is_byte separator) bytes r → unwrap_or r (length bytes) ≡ position_or_len (is_byte separator) bytes
length_found separator bytes None nowhere =
    sym (position_or_len_is (is_byte separator) bytes (length bytes) 0 (omega arith) (λ k lt. false_from_ne_true _ (nowhere k (omega arith) lt)) (λ lt. absurd (omega arith)))
length_found separator bytes (Some at) first =
    sym (position_or_len_is (is_byte separator) bytes at 0 (omega (arith, first.0.high)) (λ k below. false_from_ne_true _ (first.0.before k (omega arith) below)) (λ _. first.1))

pub within_length : (separator : ℕ) (bytes : List ℕ) (r : Option ℕ) → IsFirstByte (is_byte separator) bytes r → unwrap_or r (length bytes) ≤ length bytes
within_length separator bytes None nowhere = omega arith
within_length separator bytes (Some at) first = omega (arith, first.0.high)

-- what a line that isn't broken holds
pub each_in_line : (line : List ℕ) → is_broken line ≡ false → AllByRecursion IsInLine line
unfolding is_broken
each_in_line [] e = tt
each_in_line (b ∷ bs) e =
    elim (cases_Bool (ends_lines b)) [
      | inl is ↦ let h : true ≡ false = rw is at e in absurd cc
      | inr other ↦ let h : list_any ends_lines bs ≡ false = rw other at e in (in_line b other, each_in_line bs h)
    ]
  where
    in_line : (b : ℕ) → ends_lines b ≡ false → IsInLine b
    in_line b e = grind (arith, nat_tests)
