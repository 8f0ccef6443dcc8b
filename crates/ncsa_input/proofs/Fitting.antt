-- What a part takes may stand there.
use Rattle.std.proofs.Common.{◌≡◌, ℕ, suc, ◌+◌, ◌==◌, List, [], ◌∷◌, length, take, drop, Option, Some, None, option_map, option_and_then, position, nat_lt, refl, ap, subst, inl, inr, arith}
use Rattle.std.proofs.lemmas.Bool.{cases_Bool, eqb-true, eqb-false}
use Rattle.std.proofs.lemmas.List.Elements.{All-nil, All-cons, All-from_recursion}
use Rattle.std.proofs.lemmas.List.Folds.{length-prefix_len}
use Rattle.std.specs.List.{All, AllByRecursion, position_or_len}
use Rattle.std.specs.Prelude.{◌≢◌, not}
use Rattle.ncsa_input.specs.declared.shape.Shape.{Shape}
use Rattle.ncsa_input.specs.declared.shape.Shape.TheVariants.{Word, Bracketed, Quoted}
use Rattle.ncsa_input.specs.Form.{IsWord, IsInBrackets, IsQuotedByte, IsInQuotes}
use Rattle.ncsa_input.specs.Lines.{is_space}
use Rattle.ncsa_input.specs.Shapes.{behind, closed_at, closing, taken, Taken}
use Rattle.ncsa_input.proofs.Taking.{one_more}

-- what may stand in a part of this shape
abbrev pub Fits : Shape → List ℕ → Type 0
Fits Word part = IsWord part
Fits Bracketed part = IsInBrackets part
Fits Quoted part = IsInQuotes part

-- in front of the first of some byte there is none of it
before_first : (c : ℕ) (text : List ℕ) → AllByRecursion (λ b. b ≢ c) (take (position_or_len (λ b. b == c) text) text)
before_first c [] = tt
before_first c (b ∷ bs) =
    elim (cases_Bool (b == c)) [
      | inl is ↦ rw is tt
      | inr other ↦ rw (other, one_more) (eqb-false b c other, before_first c bs)
    ]

all_before_first : (c : ℕ) (text : List ℕ) → All (λ b. b ≢ c) (take (position_or_len (λ b. b == c) text) text)
all_before_first c text = All-from_recursion (λ b. b ≢ c) (take (position_or_len (λ b. b == c) text) text) (before_first c text)

word_fits : (text : List ℕ) → position_or_len is_space text ≢ 0 → IsWord (take (position_or_len is_space text) text)
word_fits text some = record {
  filled = let size : length (take (position_or_len is_space text) text) ≡ position_or_len is_space text = length-prefix_len (λ b. not (is_space b)) text in omega arith;
  whole = all_before_first 32 text;
}

bracketed_fits : (text : List ℕ) (at : ℕ) → position (λ b. b == 93) text ≡ Some at → IsInBrackets (take at text)
bracketed_fits text at e =
    elim (cases_Bool (nat_lt (position_or_len (λ b. b == 93) text) (length text))) [
      | inl found ↦
          let place : position_or_len (λ b. b == 93) text ≡ at = let h : Some (position_or_len (λ b. b == 93) text) ≡ Some at = rw found at e in cc in
          subst (λ (n : ℕ). IsInBrackets (take n text)) place (all_before_first 93 text)
      | inr lost ↦ let h : None ≡ Some at = rw lost at e in absurd cc
    ]

-- ---- in quotes

nothing_fits : IsInQuotes []
nothing_fits = record { bytes = []; each = All-nil IsQuotedByte; all = refl }

at_front : (text : List ℕ) (at : ℕ) → Some 0 ≡ Some at → IsInQuotes (take at text)
at_front text at e = subst (λ (n : ℕ). IsInQuotes (take n text)) (zero_is at e) nothing_fits
  where
    zero_is : (at : ℕ) → Some 0 ≡ Some at → 0 ≡ at
    zero_is at e = cc

plain_fits : (b : ℕ) (bs : List ℕ) (at : ℕ) (r : Option ℕ) → b ≢ 34 → b ≢ 92 → ((n : ℕ) → r ≡ Some n → IsInQuotes (take n bs)) → option_map (λ n. n + 1) r ≡ Some at → IsInQuotes (take at (b ∷ bs))
plain_fits b bs at None quote back fits e = absurd cc
plain_fits b bs at (Some n) quote back fits e =
    let sum : n + 1 ≡ at = cc in
    let place : suc n ≡ at = omega arith in
    let more = fits n refl in
    subst (λ (m : ℕ). IsInQuotes (take m (b ∷ bs))) place (record {
      bytes = (b ∷ []) ∷ more.bytes;
      each = All-cons IsQuotedByte (b ∷ []) more.bytes (quote, back) more.each;
      all = ap (λ t. b ∷ t) more.all;
    })

escaped_fits : (b c : ℕ) (bs : List ℕ) (at : ℕ) (r : Option ℕ) → b ≡ 92 → ((n : ℕ) → r ≡ Some n → IsInQuotes (take n bs)) → option_map (λ n. n + 2) r ≡ Some at → IsInQuotes (take at (b ∷ c ∷ bs))
escaped_fits b c bs at None back fits e = absurd cc
escaped_fits b c bs at (Some n) back fits e =
    let sum : n + 2 ≡ at = cc in
    let place : suc (suc n) ≡ at = omega arith in
    let more = fits n refl in
    subst (λ (m : ℕ). IsInQuotes (take m (b ∷ c ∷ bs))) place (record {
      bytes = (b ∷ c ∷ []) ∷ more.bytes;
      each = All-cons IsQuotedByte (b ∷ c ∷ []) more.bytes back more.each;
      all = ap (λ t. b ∷ c ∷ t) more.all;
    })

quoted_fits : (text : List ℕ) (at : ℕ) → closing text ≡ Some at → IsInQuotes (take at text)
quoted_fits [] at e = absurd cc
quoted_fits (b ∷ []) at e =
    elim (cases_Bool (b == 34)) [
      | inl quote ↦ let h : Some 0 ≡ Some at = rw quote at e in at_front (b ∷ []) at h
      | inr other ↦ let h : None ≡ Some at = rw other at e in absurd cc
    ]
quoted_fits (b ∷ c ∷ bs) at e =
    elim (cases_Bool (b == 34)) [
      | inl quote ↦ let h : Some 0 ≡ Some at = rw quote at e in at_front (b ∷ c ∷ bs) at h
      | inr other ↦ elim (cases_Bool (b == 92)) [
        | inl back ↦ let h : option_map (λ n. n + 2) (closing bs) ≡ Some at = rw (other, back) at e in escaped_fits b c bs at (closing bs) (eqb-true b 92 back) (quoted_fits bs) h
        | inr plain ↦ let h : option_map (λ n. n + 1) (closing (c ∷ bs)) ≡ Some at = rw (other, plain) at e in plain_fits b (c ∷ bs) at (closing (c ∷ bs)) (eqb-false b 34 other) (eqb-false b 92 plain) (quoted_fits (c ∷ bs)) h
      ]
    ]

-- ---- any part

-- the first part of what was taken
pub first_is : (a b : List ℕ × List ℕ) → Some a ≡ Some b → a.0 ≡ b.0
first_is a b e = ap (λ (p : List ℕ × List ℕ). p.0) (some_is a b e)
  where
    some_is : (a b : List ℕ × List ℕ) → Some a ≡ Some b → a ≡ b
    some_is a b e = cc

enclosed_fits : (P : List ℕ → Type 0) (field rest : List ℕ) (place : List ℕ → Option ℕ) → ((inner : List ℕ) (at : ℕ) → place inner ≡ Some at → P (take at inner))
    → (before : Option (List ℕ)) → option_and_then (λ inner. closed_at inner (place inner)) before ≡ Some (field, rest) → P field
enclosed_fits P field rest place fits None e = absurd cc
enclosed_fits P field rest place fits (Some inner) e = at_place (place inner) refl e
  where
    at_place : (r : Option ℕ) → place inner ≡ r → closed_at inner r ≡ Some (field, rest) → P field
    at_place None found told = absurd cc
    at_place (Some at) found told = subst P (first_is (take at inner, drop (at + 1) inner) (field, rest) told) (fits inner at found)

pub taken_fits : (shape : Shape) (text field rest : List ℕ) → taken shape text ≡ Some (field, rest) → Fits shape field
unfolding taken
taken_fits Word text field rest e =
    elim (cases_Bool (position_or_len is_space text == 0)) [
      | inl none ↦ let nothing : Taken = None in let h : nothing ≡ Some (field, rest) = rw none at e in absurd cc
      | inr some ↦
          let n : ℕ = position_or_len is_space text in
          let got : Taken = Some (take n text, drop n text) in
          let h : got ≡ Some (field, rest) = rw some at e in
          subst IsWord (first_is (take n text, drop n text) (field, rest) h) (word_fits text (eqb-false (position_or_len is_space text) 0 some))
    ]
taken_fits Bracketed text field rest e = enclosed_fits IsInBrackets field rest (position (λ b. b == 93)) bracketed_fits (behind 91 text) e
taken_fits Quoted text field rest e = enclosed_fits IsInQuotes field rest closing quoted_fits (behind 34 text) e
