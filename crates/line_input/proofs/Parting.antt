-- The first part of a text.
use Rattle.std.proofs.Common.{◌≡◌, ℕ, suc, ◌+◌, ◌-◌, ◌<◌, ◌≤◌, Bool, true, not, List, [], ◌∷◌, length, take, drop, refl, sym, ap, ◌∙◌, subst, inl, inr, arith, rules, tests}
use Rattle.std.proofs.lemmas.Bool.{cases_Bool}
use Rattle.std.proofs.lemmas.List.{drop-drop, length-take}
use Rattle.std.proofs.lemmas.List.Splits.{length-slice_split}
use Rattle.std.proofs.lemmas.List.Sums.{prefix_len-le-length, length-filter, count_by-le-length}
use Rattle.std.specs.List.{slice_split, filter, position_or_len, prefix_len}
use Rattle.line_input.specs.Words.{words_in}
use Rattle.line_input.specs.declared.gap.Gap.TheVariants.{Words}
use Rattle.line_input.specs.Parts.{is_filled, is_gap, parts_by, IsNextPart}

one_more : (n : ℕ) → 1 + n ≡ suc n
one_more n = omega arith

-- bytes at the front that part a text make no part
pub parts_by-front : (gap : ℕ → Bool) (text : List ℕ) → parts_by gap text ≡ parts_by gap (drop (prefix_len gap text) text)
unfolding parts_by
parts_by-front gap [] = refl
parts_by-front gap (b ∷ bs) =
    elim (cases_Bool (gap b)) [
      | inl e ↦ rw (e, one_more) (parts_by-front gap bs)
      | inr e ↦ rw (e, e) refl
    ]

behind_front : (gap : ℕ → Bool) (text : List ℕ) → prefix_len gap (drop (prefix_len gap text) text) ≡ 0
behind_front gap [] = refl
behind_front gap (b ∷ bs) =
    elim (cases_Bool (gap b)) [
      | inl e ↦ rw (e, one_more) (behind_front gap bs)
      | inr e ↦ rw (e, e) refl
    ]

-- a text that begins with no byte of either kind is empty
nothing_left : (gap : ℕ → Bool) (text : List ℕ) → prefix_len gap text ≡ 0 → position_or_len gap text ≡ 0 → parts_by gap text ≡ []
unfolding parts_by
nothing_left gap [] none first = refl
nothing_left gap (b ∷ bs) none first =
    elim (cases_Bool (gap b)) [
      | inl e ↦ let h : 1 + prefix_len gap bs ≡ 0 = rw e at none in absurd (omega arith)
      | inr e ↦ let h : 1 + position_or_len gap bs ≡ 0 = rw e at first in absurd (omega arith)
    ]

-- a text is split into what stands before the first byte that parts it, and the parts behind
front_split : (gap : ℕ → Bool) (text : List ℕ) → (rest : List (List ℕ)) × ((slice_split gap text ≡ take (position_or_len gap text) text ∷ rest) × (filter is_filled rest ≡ filter is_filled (slice_split gap (drop (position_or_len gap text) text))))
front_split gap [] = ([], (refl, refl))
front_split gap (b ∷ bs) =
    elim (cases_Bool (gap b)) [
      | inl e ↦ (slice_split gap bs, (rw e refl, rw (e, e) refl))
      | inr e ↦ let more = front_split gap bs in
          (more.0, (rw (e, one_more, more.1.0) refl, rw (e, one_more) more.1.1))
    ]

first_kept : (gap : ℕ → Bool) (text : List ℕ) (rest : List (List ℕ)) (part : List ℕ) → 0 < length part → filter is_filled rest ≡ filter is_filled (slice_split gap (drop (position_or_len gap text) text))
    → filter is_filled (part ∷ rest) ≡ part ∷ parts_by gap (drop (position_or_len gap text) text)
unfolding parts_by
first_kept gap text rest [] some e = absurd (omega arith)
first_kept gap text rest (b ∷ bs) some e = let filled : is_filled (b ∷ bs) ≡ true = search (rules, tests) in rw filled (ap (λ t. (b ∷ bs) ∷ t) e)

pub parts_by-first : (gap : ℕ → Bool) (text : List ℕ) → 0 < position_or_len gap text
    → parts_by gap text ≡ take (position_or_len gap text) text ∷ parts_by gap (drop (position_or_len gap text) text)
unfolding parts_by
parts_by-first gap text some =
    let more = front_split gap text in
    rw more.1.0 (first_kept gap text more.0 (take (position_or_len gap text) text) (omega (arith, length-take {A = ℕ}, prefix_len-le-length (λ b. not (gap b)) text)) more.1.1)

prefix_len-not : (gap : ℕ → Bool) (text : List ℕ) → position_or_len gap text ≤ length text
prefix_len-not gap text = prefix_len-le-length (λ b. not (gap b)) text

behind : (gap : ℕ → Bool) (line : List ℕ) (at from : ℕ) → from ≡ at + prefix_len gap (drop at line) → drop from line ≡ drop (prefix_len gap (drop at line)) (drop at line)
behind gap line at from e = ap (λ n. drop n line) e ∙ sym (drop-drop (prefix_len gap (drop at line)) at line)

-- none comes behind a place
pub next_part_none : (gap : ℕ → Bool) (line : List ℕ) (at from : ℕ) → from ≡ at + prefix_len gap (drop at line) → position_or_len gap (drop from line) ≡ 0
    → parts_by gap (drop at line) ≡ []
next_part_none gap line at from e none =
    let same = behind gap line at from e in
    parts_by-front gap (drop at line) ∙ (ap (parts_by gap) (sym same) ∙ nothing_left gap (drop from line) (ap (prefix_len gap) same ∙ behind_front gap (drop at line)) none)

-- the next part
pub next_part_some : (gap : ℕ → Bool) (line : List ℕ) (at from size : ℕ) → from ≡ at + prefix_len gap (drop at line) → size ≡ position_or_len gap (drop from line) → 0 < size → from + size ≤ length line
    → IsNextPart gap line at (record { from = from; to = from + size })
next_part_some gap line at from size e same some within =
    let there = behind gap line at from e in
    let cut : (from + size) - from ≡ size = omega arith in
    let first : parts_by gap (drop from line) ≡ take size (drop from line) ∷ parts_by gap (drop size (drop from line)) =
    subst (λ (n : ℕ). parts_by gap (drop from line) ≡ take n (drop from line) ∷ parts_by gap (drop n (drop from line))) (sym same) (parts_by-first gap (drop from line) (omega arith)) in
    record {
      after = omega arith;
      some = omega arith;
      within = within;
      parts = parts_by-front gap (drop at line) ∙ (ap (parts_by gap) (sym there) ∙ (first ∙ rw (cut, drop-drop size from line) refl));
    }

-- there are at most as many parts as bytes, and one more
pub few_parts : (gap : ℕ → Bool) (text : List ℕ) → length (parts_by gap text) ≤ length text + 1
unfolding parts_by
few_parts gap text =
    omega (arith, length-filter is_filled (slice_split gap text), count_by-le-length is_filled (slice_split gap text), length-slice_split gap text, count_by-le-length gap text)

-- words are the parts between what parts words
pub parts_words : (text : List ℕ) → parts_by (is_gap Words) text ≡ words_in text
unfolding parts_by
parts_words text = refl
