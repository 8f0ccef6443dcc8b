-- The lines that end by an end of a line, whether or not lines wait for their LF.
use Rattle.std.proofs.Common.{◌≡◌, ℕ, zero, suc, ◌+◌, ◌-◌, ◌<◌, ◌≤◌, Bool, true, List, ◌∷◌, length, filter, sym, ◌∙◌, ap, arith, inl, inr, subst, length-drop}
use Rattle.std.proofs.lemmas.Bool.{cases_Bool}
use Rattle.std.proofs.lemmas.List.{length-take-le}
use Rattle.std.specs.List.{position_or_len, before_first, after_first}
use Rattle.lp_model.specs.Lines.{Line, is_lf, ended_line, lines_to_come, lines_of}
use Rattle.lp_model.specs.Reading.{lines_before}
use Rattle.lp_model.specs.Following.{IsLineEnd}
use Rattle.lp_model.proofs.Cutting.{lines_to_come-ended}
use Rattle.lp_model.proofs.Ordered.{ordered_lines, ends_by, none_by, lf_before, later_end}

one_more_by : (line : Line) (xs ys : List Line) (p : ℕ) → filter (ends_by p) xs ≡ filter (ends_by p) ys → filter (ends_by p) (line ∷ xs) ≡ filter (ends_by p) (line ∷ ys)
one_more_by line xs ys p e = elim (cases_Bool (ends_by p line)) [ inl t ↦ rw t (ap (λ r. line ∷ r) e) | inr f ↦ rw f e ]

waits_alike : (n : ℕ) (waits : Bool) (number start place : ℕ) (bytes : List ℕ) → length bytes ≤ n → IsLineEnd bytes place
    → filter (ends_by (start + place)) (lines_to_come waits number start bytes) ≡ filter (ends_by (start + place)) (lines_to_come true number start bytes)
waits_alike n waits number start place bytes small (inl e) =
    none_by start (start + place) (lines_to_come waits number start bytes) (ordered_lines (length bytes) bytes waits number start (omega arith)) (omega arith)
    ∙ sym (none_by start (start + place) (lines_to_come true number start bytes) (ordered_lines (length bytes) bytes true number start (omega arith)) (omega arith))
waits_alike zero waits number start place bytes small (inr (some, high, lf)) = absurd (omega arith)
waits_alike (suc n) waits number start place bytes small (inr (some, high, lf)) =
    let early = lf_before bytes place some high lf in
    let there : position_or_len is_lf bytes < length bytes = omega arith in
    let k : ℕ = position_or_len is_lf bytes + 1 in
    let before = before_first is_lf bytes in
    let after = after_first is_lf bytes in
    let front : length before ≡ position_or_len is_lf bytes = length-take-le (position_or_len is_lf bytes) bytes (omega arith) in
    let back : length after ≡ length bytes - k = length-drop k bytes in
    let start' : ℕ = start + length before + 1 in
    let inner = waits_alike n waits (number + 1) start' (place - k) after (omega arith) (later_end bytes k place (omega arith) (inr (some, high, lf)) (omega arith)) in
    let place_is : start' + (place - k) ≡ start + place = omega arith in
    let line = ended_line number start before in
    let rest : filter (ends_by (start + place)) (lines_to_come waits (number + 1) start' after) ≡ filter (ends_by (start + place)) (lines_to_come true (number + 1) start' after) =
    subst (λ (p : ℕ). filter (ends_by p) (lines_to_come waits (number + 1) start' after) ≡ filter (ends_by p) (lines_to_come true (number + 1) start' after)) place_is inner in
    ap (filter (ends_by (start + place))) (lines_to_come-ended waits number start bytes there)
    ∙ (one_more_by line _ _ (start + place) rest ∙ sym (ap (filter (ends_by (start + place))) (lines_to_come-ended true number start bytes there)))

pub lines_before-alike : (bytes : List ℕ) (waits : Bool) (place : ℕ) → IsLineEnd bytes place → lines_before bytes waits place ≡ lines_before bytes true place
lines_before-alike bytes waits place is_end =
    let h = waits_alike (length bytes) waits 1 0 place bytes (omega arith) is_end in
    let e : 0 + place ≡ place = omega arith in
    subst (λ (p : ℕ). filter (ends_by p) (lines_of bytes waits) ≡ filter (ends_by p) (lines_of bytes true)) e h
