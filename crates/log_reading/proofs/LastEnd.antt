-- The lines that LF ends come to an end behind the last LF.
use Rattle.std.proofs.Common.{◌≡◌, ℕ, zero, suc, ◌+◌, ◌-◌, ◌<◌, ◌≤◌, Bool, true, List, [], ◌∷◌, ◌++◌, length, take, drop, reverse, get_or, refl, sym, ◌∙◌, ap, subst, arith, inl, inr, length-append, length-drop, append_assoc}
use Rattle.std.proofs.Math.Nat.{max-eq_right}
use Rattle.std.proofs.lemmas.Bool.{cases_Bool, cases_lt}
use Rattle.std.proofs.lemmas.List.{reverse-append, length-reverse, take-append-drop, take_more, length-take-le}
use Rattle.std.proofs.lemmas.List.Sums.{passes_at_first, split_at_first}
use Rattle.std.specs.List.{position_or_len, before_first, after_first}
use Rattle.lp_model.specs.Lines.{Line, is_lf, lines_to_come}
use Rattle.lp_model.specs.Outside.{Folder}
use Rattle.lp_model.specs.Reading.{lines_before, lines_between}
use Rattle.lp_model.specs.Following.{IsLineEnd, end_of}
use Rattle.lp_model.proofs.Cutting.{lines_to_come-ended, lines_to_come-last}
use Rattle.lp_model.proofs.Ordered.{lines_between_end, end_fits}
use Rattle.log_reading.specs.declared.span.Span.{Span}
use Rattle.log_reading.specs.Spans.{cut_of, last_end, span_end}

-- where the first byte that passes stands in two lists
first_in_front : (passes : ℕ → Bool) (xs ys : List ℕ) → position_or_len passes xs < length xs → position_or_len passes (xs ++ ys) ≡ position_or_len passes xs
first_in_front passes [] ys there = absurd (omega arith)
first_in_front passes (x ∷ xs) ys there = elim (cases_Bool (passes x)) [
  | inl e ↦ rw e refl
  | inr e ↦ let inner : position_or_len passes xs < length xs = let h = rw e at there in omega (arith, h) in rw e (ap (λ n. 1 + n) (first_in_front passes xs ys inner))
]

first_behind_all : (passes : ℕ → Bool) (xs ys : List ℕ) → length xs ≤ position_or_len passes xs → position_or_len passes (xs ++ ys) ≡ length xs + position_or_len passes ys
first_behind_all passes [] ys none = omega arith
first_behind_all passes (x ∷ xs) ys none = elim (cases_Bool (passes x)) [
  | inl e ↦ let h = rw e at none in absurd (omega arith)
  | inr e ↦
      let inner : length xs ≤ position_or_len passes xs = let h = rw e at none in omega (arith, h) in
      let rest = first_behind_all passes xs ys inner in rw e (omega (arith, rest))
]

-- where none passes, none does from the back
none_back : (passes : ℕ → Bool) (xs : List ℕ) → length xs ≤ position_or_len passes xs → length xs ≤ position_or_len passes (reverse xs)
none_back passes [] none = omega arith
none_back passes (x ∷ xs) none = elim (cases_Bool (passes x)) [
  | inl e ↦ let h = rw e at none in absurd (omega arith)
  | inr e ↦
      let inner : length xs ≤ position_or_len passes xs = let h = rw e at none in omega (arith, h) in
      let rest = none_back passes xs inner in
      let size : length (reverse xs) ≡ length xs = length-reverse xs in
      let back : reverse (x ∷ xs) ≡ reverse xs ++ x ∷ [] = reverse-append (x ∷ []) xs in
      let last : position_or_len passes (x ∷ []) ≡ 1 = rw e refl in
      let all = first_behind_all passes (reverse xs) (x ∷ []) (omega arith) in
      let Of : List ℕ → Type 0 = λ t. length (x ∷ xs) ≤ position_or_len passes t in
      subst Of (sym back) (omega (arith, all, last, size))
]

-- the last LF of two lists
last_end_behind : (xs ys : List ℕ) → position_or_len is_lf (reverse ys) < length ys → last_end (xs ++ ys) ≡ length xs + last_end ys
unfolding last_end
last_end_behind xs ys there =
    let size : length (reverse ys) ≡ length ys = length-reverse ys in
    let first : position_or_len is_lf (reverse (xs ++ ys)) ≡ position_or_len is_lf (reverse ys) = ap (position_or_len is_lf) (reverse-append xs ys) ∙ first_in_front is_lf (reverse ys) (reverse xs) (omega arith) in
    let both : length (xs ++ ys) ≡ length xs + length ys = length-append xs ys in
    omega arith

last_end_front : (xs ys : List ℕ) → length ys ≤ position_or_len is_lf (reverse ys) → last_end (xs ++ ys) ≡ last_end xs
unfolding last_end
last_end_front xs ys none =
    let size : length (reverse ys) ≡ length ys = length-reverse ys in
    let first : position_or_len is_lf (reverse (xs ++ ys)) ≡ length (reverse ys) + position_or_len is_lf (reverse xs) = ap (position_or_len is_lf) (reverse-append xs ys) ∙ first_behind_all is_lf (reverse ys) (reverse xs) (omega arith) in
    let both : length (xs ++ ys) ≡ length xs + length ys = length-append xs ys in
    omega arith

last_end_none : (xs : List ℕ) → length xs ≤ position_or_len is_lf (reverse xs) → last_end xs ≡ 0
unfolding last_end
last_end_none xs none = omega arith

last_end_lf : (xs : List ℕ) (x : ℕ) → is_lf x ≡ true → last_end (xs ++ x ∷ []) ≡ length xs + 1
unfolding last_end
last_end_lf xs x e =
    let back : reverse (xs ++ x ∷ []) ≡ x ∷ reverse xs = reverse-append xs (x ∷ []) in
    let here : position_or_len is_lf (x ∷ reverse xs) ≡ 0 = rw e refl in
    let first : position_or_len is_lf (reverse (xs ++ x ∷ [])) ≡ 0 = ap (position_or_len is_lf) back ∙ here in
    let size : length (xs ++ x ∷ []) ≡ length xs + 1 = length-append xs (x ∷ []) in
    omega arith

-- behind the first LF
last_end_after : (left : List ℕ) → position_or_len is_lf left < length left → last_end left ≡ position_or_len is_lf left + 1 + last_end (after_first is_lf left)
last_end_after left there =
    let before = before_first is_lf left in
    let after = after_first is_lf left in
    let x = get_or left (position_or_len is_lf left) 0 in
    let front : List ℕ = before ++ x ∷ [] in
    let size : length before ≡ position_or_len is_lf left = length-take-le (position_or_len is_lf left) left (omega arith) in
    let more : length front ≡ length before + 1 = length-append before (x ∷ []) in
    let whole : left ≡ front ++ after = split_at_first is_lf left 0 there ∙ sym (append_assoc before (x ∷ []) after) in
    let same : last_end left ≡ last_end (front ++ after) = ap last_end whole in
    elim (cases_lt (position_or_len is_lf (reverse after)) (length after)) [
      | inl later ↦ let e = last_end_behind front after later in omega arith
      | inr none ↦
          let e = last_end_front front after none in
          let one = last_end_lf before x (passes_at_first is_lf left 0 there) in
          let nothing = last_end_none after none in
          omega arith
    ]

none_ended : (number start : ℕ) (left : List ℕ) → length left ≤ position_or_len is_lf left → end_of start (lines_to_come true number start left) ≡ start + last_end left
none_ended number start left none =
    let nothing = last_end_none left (none_back is_lf left none) in
    let empty : lines_to_come true number start left ≡ [] = lines_to_come-last true number start left none in
    let Of : List Line → Type 0 = λ t. end_of start t ≡ start + last_end left in
    subst Of (sym empty) (omega arith)

-- the lines that wait for their LF end behind the last one
ended_lines : (n number start : ℕ) (left : List ℕ) → length left ≤ n → end_of start (lines_to_come true number start left) ≡ start + last_end left
ended_lines zero number start left small = elim (cases_lt (position_or_len is_lf left) (length left)) [
  | inl there ↦ absurd (omega arith)
  | inr none ↦ none_ended number start left none
]
ended_lines (suc n) number start left small = elim (cases_lt (position_or_len is_lf left) (length left)) [
  | inl there ↦
      let before = before_first is_lf left in
      let after = after_first is_lf left in
      let front : length before ≡ position_or_len is_lf left = length-take-le (position_or_len is_lf left) left (omega arith) in
      let back : length after ≡ length left - (position_or_len is_lf left + 1) = length-drop (position_or_len is_lf left + 1) left in
      let rest = ended_lines n (number + 1) (start + length before + 1) after (omega arith) in
      let behind = last_end_after left there in
      let Of : List Line → Type 0 = λ t. end_of start t ≡ start + last_end left in
      subst Of (sym (lines_to_come-ended true number start left there)) (omega arith)
  | inr none ↦ none_ended number start left none
]

-- an end of a line is where the last line before it ends
last_end_taken : (bytes : List ℕ) (place : ℕ) → IsLineEnd bytes place → last_end (take place bytes) ≡ place
last_end_taken bytes place (inl e) =
    let none : last_end [] ≡ 0 = last_end_none [] (omega arith) in
    subst (λ (k : ℕ). last_end (take k bytes) ≡ k) (sym e) none
last_end_taken bytes place (inr (some, high, lf)) =
    let k : ℕ = place - 1 in
    let next : k + 1 ≡ place = omega arith in
    let size : length (take k bytes) ≡ k = length-take-le k bytes (omega arith) in
    let front : take (k + 1) bytes ≡ take k bytes ++ get_or bytes k 0 ∷ [] = take_more bytes k 0 (omega arith) in
    let is : is_lf (get_or bytes k 0) ≡ true = ap is_lf lf in
    let end = last_end_lf (take k bytes) (get_or bytes k 0) is in
    let here : last_end (take (k + 1) bytes) ≡ k + 1 = ap last_end front ∙ (end ∙ ap (λ n. n + 1) size) in
    subst (λ (n : ℕ). last_end (take n bytes) ≡ n) next here

last_end_from : (bytes : List ℕ) (place : ℕ) → IsLineEnd bytes place → last_end bytes ≡ place + last_end (drop place bytes)
last_end_from bytes place is_end =
    let fits = end_fits bytes place is_end in
    let size : length (take place bytes) ≡ place = length-take-le place bytes fits in
    let whole : last_end bytes ≡ last_end (take place bytes ++ drop place bytes) = ap last_end (sym (take-append-drop place bytes)) in
    elim (cases_lt (position_or_len is_lf (reverse (drop place bytes))) (length (drop place bytes))) [
      | inl later ↦ let e = last_end_behind (take place bytes) (drop place bytes) later in omega arith
      | inr none ↦
          let e = last_end_front (take place bytes) (drop place bytes) none in
          let taken = last_end_taken bytes place is_end in
          let nothing = last_end_none (drop place bytes) none in
          omega arith
    ]

-- where the lines of a span end that wait for their LF
pub span_ends : (x : Folder) (span : Span) → IsLineEnd (cut_of x span) span.from → end_of span.from (lines_between (cut_of x span) true span.from (length (cut_of x span))) ≡ span_end true x span
span_ends x span is_end =
    let bytes = cut_of x span in
    let rest = drop span.from bytes in
    let from = last_end_from bytes span.from is_end in
    let lines : end_of span.from (lines_between bytes true span.from (length bytes)) ≡ span.from + last_end rest =
    ap (end_of span.from) (lines_between_end bytes true span.from is_end) ∙ ended_lines (length rest) (length (lines_before bytes true span.from) + 1) span.from rest (omega arith) in
    lines ∙ (sym from ∙ sym (max-eq_right {n = span.from} {m = last_end bytes} (omega arith)))
