-- The lines of a log end within it, so at its end all of them have.
use Rattle.std.proofs.Common.{◌≡◌, ℕ, zero, suc, ◌+◌, ◌-◌, ◌≤◌, Bool, true, List, [], ◌∷◌, ◌++◌, length, filter, refl, sym, ◌∙◌, ap, subst, arith, inl, inr, nat_le, length-drop}
use Rattle.std.proofs.lemmas.Bool.{cases_lt, cases_Bool, le-leb}
use Rattle.std.proofs.lemmas.List.{length-take-le}
use Rattle.std.specs.List.{position_or_len, before_first, after_first}
use Rattle.lp_model.specs.Lines.{Line, is_lf, is_counted, last_line, lines_of, lines_to_come}
use Rattle.lp_model.specs.Reading.{Format, lines_before, lines_between, standing_behind, standing_at}
use Rattle.lp_model.specs.Following.{IsLineEnd, end_of}
use Rattle.lp_model.proofs.Cutting.{lines_to_come-ended, lines_to_come-last}
use Rattle.lp_model.proofs.Ordered.{Ordered, ordered_lines, ends_by, lines_behind_end, lines_between_end}

one_fits : (waits : Bool) (number start : ℕ) (bytes : List ℕ) → end_of start (filter (is_counted waits) (last_line number start bytes ∷ [])) ≤ start + length bytes
one_fits waits number start bytes = elim (cases_Bool (is_counted waits (last_line number start bytes))) [
  | inl e ↦ rw e (omega arith)
  | inr e ↦ rw e (omega arith)
]

last_fits : (waits : Bool) (number start : ℕ) (bytes : List ℕ) → length bytes ≤ position_or_len is_lf bytes → end_of start (lines_to_come waits number start bytes) ≤ start + length bytes
last_fits waits number start bytes none = subst (λ (t : List Line). end_of start t ≤ start + length bytes) (sym (lines_to_come-last waits number start bytes none)) (one_fits waits number start bytes)

ends_fit : (n : ℕ) (bytes : List ℕ) (waits : Bool) (number start : ℕ) → length bytes ≤ n → end_of start (lines_to_come waits number start bytes) ≤ start + length bytes
ends_fit zero bytes waits number start small = elim (cases_lt (position_or_len is_lf bytes) (length bytes)) [
  | inl there ↦ absurd (omega arith)
  | inr none ↦ last_fits waits number start bytes none
]
ends_fit (suc n) bytes waits number start small = elim (cases_lt (position_or_len is_lf bytes) (length bytes)) [
  | inl there ↦
      let before = before_first is_lf bytes in
      let after = after_first is_lf bytes in
      let front : length before ≡ position_or_len is_lf bytes = length-take-le (position_or_len is_lf bytes) bytes (omega arith) in
      let back : length after ≡ length bytes - (position_or_len is_lf bytes + 1) = length-drop (position_or_len is_lf bytes + 1) bytes in
      let more = ends_fit n after waits (number + 1) (start + length before + 1) (omega arith) in
      let Of : List Line → Type 0 = λ t. end_of start t ≤ start + length bytes in
      subst Of (sym (lines_to_come-ended waits number start bytes there)) (omega arith)
  | inr none ↦ last_fits waits number start bytes none
]

end_after : (p : ℕ) (lines : List Line) → Ordered p lines → p ≤ end_of p lines
end_after p [] o = omega arith
end_after p (line ∷ lines) (a, b, o) = let h = end_after line.end lines o in omega arith

ends_all : (p q : ℕ) (lines : List Line) → Ordered p lines → end_of p lines ≤ q → filter (ends_by q) lines ≡ lines
ends_all p q [] o le = refl
ends_all p q (line ∷ lines) (a, b, o) le =
    let h = end_after line.end lines o in
    let e : nat_le line.end q ≡ true = le-leb line.end q (omega arith) in rw e (ap (λ t. line ∷ t) (ends_all line.end q lines o le))

-- where a log ends, all lines have ended: those before a line's end and those from there on
lines_before_cut : (bytes : List ℕ) (waits : Bool) (place : ℕ) → IsLineEnd bytes place
    → lines_before bytes waits (length bytes) ≡ lines_before bytes waits place ++ lines_between bytes waits place (length bytes)
lines_before_cut bytes waits place is_end =
    let fits = ends_fit (length bytes) bytes waits 1 0 (omega arith) in
    let o = ordered_lines (length bytes) bytes waits 1 0 (omega arith) in
    ends_all 0 (length bytes) (lines_of bytes waits) o (omega arith)
    ∙ (lines_behind_end bytes waits place is_end ∙ ap (λ t. lines_before bytes waits place ++ t) (sym (lines_between_end bytes waits place is_end)))

-- the standing carried forward is the one at the log's end
pub standing_at_cut : (format : Format) (bytes : List ℕ) (waits : Bool) (place : ℕ) → IsLineEnd bytes place
    → standing_behind format (lines_before bytes waits place ++ lines_between bytes waits place (length bytes)) ≡ standing_at format bytes waits (length bytes)
standing_at_cut format bytes waits place is_end = ap (standing_behind format) (sym (lines_before_cut bytes waits place is_end))
