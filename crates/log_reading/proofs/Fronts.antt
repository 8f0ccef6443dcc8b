-- What some first lines of a log's rest give, found by looking back over the whole log and by carrying its standing forward.
use Rattle.std.proofs.Common.{◌≡◌, ℕ, suc, Bool, true, false, List, [], ◌∷◌, ◌++◌, length, filter, flat_map, refl, sym, ◌∙◌, ap, arith, append_assoc, subst, inl, inr}
use Rattle.std.proofs.lemmas.Bool.{cases_Bool}
use Rattle.lp_model.specs.Lines.{Line, lines_of}
use Rattle.lp_model.specs.Reading.{Format, Reading, passed, bad, rows, rows_in, columns_behind, reading_behind, records_read, records_in, reading_of, is_bad, lines_before}
use Rattle.lp_model.specs.Following.{records_behind, records_following, bad_following}
use Rattle.lp_model.proofs.Ordered.{Ordered, ordered_lines, before_line, through_line, ends_by}

-- what stands before a line of all lines, and through it
before_all : (bytes : List ℕ) (waits : Bool) (before rest : List Line) (line : Line) → lines_of bytes waits ≡ before ++ line ∷ rest → lines_before bytes waits line.start ≡ before
before_all bytes waits before rest line e =
    let o = ordered_lines (length bytes) bytes waits 1 0 (omega arith) in
    ap (filter (ends_by line.start)) e ∙ before_line 0 before rest line (subst (Ordered 0) e o)

through_all : (bytes : List ℕ) (waits : Bool) (before rest : List Line) (line : Line) → lines_of bytes waits ≡ before ++ line ∷ rest → lines_before bytes waits line.end ≡ before ++ line ∷ []
through_all bytes waits before rest line e =
    let o = ordered_lines (length bytes) bytes waits 1 0 (omega arith) in
    ap (filter (ends_by line.end)) e ∙ through_line 0 before rest line (subst (Ordered 0) e o)

-- what a line of all lines is
pub reading_is : (format : Format) (bytes : List ℕ) (waits : Bool) (before rest : List Line) (line : Line) → lines_of bytes waits ≡ before ++ line ∷ rest → reading_of format bytes waits line ≡ reading_behind format before line
reading_is format bytes waits before rest line e = ap (λ t. reading_behind format t line) (before_all bytes waits before rest line e)

pub records_front : (format : Format) (bytes : List ℕ) (waits : Bool) (before front rest : List Line) → lines_of bytes waits ≡ before ++ (front ++ rest)
    → flat_map (records_in format bytes waits) front ≡ records_following format before front
records_front format bytes waits before [] rest e = refl
records_front format bytes waits before (line ∷ front) rest e =
    let back = before_all bytes waits before (front ++ rest) line e in
    let on = through_all bytes waits before (front ++ rest) line e in
    let here : records_in format bytes waits line ≡ records_behind format before line =
    ap (λ t. records_read line.number (columns_behind format t) (reading_behind format (lines_before bytes waits line.start) line)) on
    ∙ ap (λ t. records_read line.number (columns_behind format (before ++ line ∷ [])) (reading_behind format t line)) back in
    ap (λ t. t ++ flat_map (records_in format bytes waits) front) here
    ∙ ap (λ t. records_behind format before line ++ t) (records_front format bytes waits (before ++ line ∷ []) front rest (e ∙ sym (append_assoc before (line ∷ []) (front ++ rest))))

-- as many of them are bad
pub bad_front : (format : Format) (bytes : List ℕ) (waits : Bool) (before front rest : List Line) → lines_of bytes waits ≡ before ++ (front ++ rest)
    → length (filter (λ line. is_bad (reading_of format bytes waits line)) front) ≡ length (bad_following format before front)
bad_front format bytes waits before [] rest e = refl
bad_front format bytes waits before (line ∷ front) rest e =
    let more = bad_front format bytes waits (before ++ line ∷ []) front rest (e ∙ sym (append_assoc before (line ∷ []) (front ++ rest))) in
    let here : is_bad (reading_of format bytes waits line) ≡ is_bad (reading_behind format before line) = ap is_bad (reading_is format bytes waits before (front ++ rest) line e) in
    elim (cases_Bool (is_bad (reading_behind format before line))) [
      | inl bad' ↦ let now : is_bad (reading_of format bytes waits line) ≡ true = here ∙ bad' in rw (now, bad') (ap suc more)
      | inr good' ↦ let now : is_bad (reading_of format bytes waits line) ≡ false = here ∙ good' in rw (now, good') more
    ]

-- a bad line gives no row
pub bad_gives_none : (reading : Reading) → is_bad reading ≡ true → rows_in reading ≡ []
bad_gives_none passed is = refl
bad_gives_none bad is = refl
bad_gives_none (rows found) is = let never : false ≡ true = is in cc
