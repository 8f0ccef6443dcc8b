-- Numbers and marks, byte by byte.
use Rattle.std.proofs.Common.{◌≡◌, ℕ, ◌+◌, ◌-◌, ◌*◌, ◌<◌, ◌≤◌, Bool, true, false, List, ◌∷◌, length, drop, get_or, min, nat_le, if◌then◌else◌, Option, Some, None, ap, sym, ◌∙◌, refl, arith}
use Rattle.std.proofs.lemmas.Bool.Decides.{nat_tests}
use Rattle.std.proofs.lemmas.List.{drop_more, drop_all}
use Rattle.std.specs.Char.{is_ascii_digit}
use Rattle.std.specs.Option.{option_or, option_and_then}
use Rattle.tpl_output.specs.declared.mark.FoundMark.{FoundMark}
use Rattle.tpl_output.specs.Marks.{number_from, place_of, column_of, ended_at, mark_from}

abbrev pub digit_in : ℕ → Option ℕ
digit_in byte = if is_ascii_digit byte then Some (byte - 48) else None

number_read : (so_far c : ℕ) (cs : List ℕ) (digit : ℕ) → digit_in c ≡ Some digit → number_from so_far (c ∷ cs) ≡ number_from (so_far * 10 + digit) cs
unfolding number_from
number_read so_far c cs digit is = by_test (is_ascii_digit c) refl where
  by_test : (test : Bool) → test ≡ is_ascii_digit c → number_from so_far (c ∷ cs) ≡ number_from (so_far * 10 + digit) cs
  by_test true yes_ =
      let e = sym yes_ in
      let same : Some (c - 48) ≡ Some digit = rw e at is in
      let value : c - 48 ≡ digit = cc in
      rw (e, value) refl
  by_test false no_ =
      let e = sym no_ in
      let bad : None ≡ Some digit = rw e at is in
      absurd (cc)

number_refused : (so_far c : ℕ) (cs : List ℕ) → digit_in c ≡ None → number_from so_far (c ∷ cs) ≡ None
unfolding number_from
number_refused so_far c cs is = by_test (is_ascii_digit c) refl where
  by_test : (test : Bool) → test ≡ is_ascii_digit c → number_from so_far (c ∷ cs) ≡ None
  by_test true yes_ =
      let e = sym yes_ in
      let bad : Some (c - 48) ≡ None = rw e at is in
      absurd (cc)
  by_test false no_ = let e = sym no_ in rw e refl

pub number_next : (digits : List ℕ) (i value digit : ℕ) → i < length digits → digit_in (get_or digits i 0) ≡ Some digit → number_from 0 digits ≡ number_from value (drop i digits)
    → number_from 0 digits ≡ number_from (value * 10 + digit) (drop (i + 1) digits)
number_next digits i value digit lt is so_far = so_far ∙ (ap (number_from value) (drop_more digits i 0 lt) ∙ number_read value (get_or digits i 0) (drop (i + 1) digits) digit is)

pub number_none : (columns : ℕ) (digits : List ℕ) (i value : ℕ) → i < length digits → digit_in (get_or digits i 0) ≡ None → number_from 0 digits ≡ number_from value (drop i digits) → None ≡ column_of columns digits
number_none columns digits i value lt is so_far =
    sym (ap (option_and_then (place_of columns)) (so_far ∙ (ap (number_from value) (drop_more digits i 0 lt) ∙ number_refused value (get_or digits i 0) (drop (i + 1) digits) is)))

-- two numbers that are one up to the columns stay so with one more digit
pub near_next : (columns number value digit next : ℕ) → next ≡ (if nat_le number columns then number * 10 + digit else number) → min number (columns + 1) ≡ min value (columns + 1) → min next (columns + 1) ≡ min (value * 10 + digit) (columns + 1)
near_next columns number value digit next is near = grind (arith, nat_tests)

near_place : (columns number value : ℕ) → min number (columns + 1) ≡ min value (columns + 1) → place_of columns number ≡ place_of columns value
near_place columns number value near = grind (arith, nat_tests)

pub number_all : (columns number value : ℕ) (digits : List ℕ) (i : ℕ) → length digits ≤ i → number_from 0 digits ≡ number_from value (drop i digits) → min number (columns + 1) ≡ min value (columns + 1) → place_of columns number ≡ column_of columns digits
unfolding number_from
number_all columns number value digits i past so_far near =
    near_place columns number value near ∙ sym (ap (option_and_then (place_of columns)) (so_far ∙ ap (number_from value) (drop_all i digits past)))

-- no mark ends at a byte
pub mark_next : (names : List (List ℕ)) (body : Bool) (text : List ℕ) (i : ℕ) → i < length text → ended_at names body text i (get_or text i 0) ≡ None
    → mark_from names body text i (drop i text) ≡ mark_from names body text (i + 1) (drop (i + 1) text)
unfolding mark_from
mark_next names body text i lt none =
    ap (mark_from names body text i) (drop_more text i 0 lt) ∙ ap (λ o. option_or o (mark_from names body text (i + 1) (drop (i + 1) text))) none

pub mark_ended : (names : List (List ℕ)) (body : Bool) (text : List ℕ) (i : ℕ) (found : FoundMark) → i < length text → ended_at names body text i (get_or text i 0) ≡ Some found
    → mark_from names body text i (drop i text) ≡ Some found
unfolding mark_from
mark_ended names body text i found lt is =
    ap (mark_from names body text i) (drop_more text i 0 lt) ∙ ap (λ o. option_or o (mark_from names body text (i + 1) (drop (i + 1) text))) is

pub mark_nowhere : (names : List (List ℕ)) (body : Bool) (text : List ℕ) (i : ℕ) → length text ≤ i → mark_from names body text i (drop i text) ≡ None
unfolding mark_from
mark_nowhere names body text i past = ap (mark_from names body text i) (drop_all i text past)
