-- The lines that end by any place are those that LF ends of the bytes up to there, unless the last line without LF ends there.
use Rattle.std.proofs.Common.{◌≡◌, ◌⊎◌, ℕ, zero, suc, ◌+◌, ◌-◌, ◌<◌, ◌≤◌, Bool, true, false, List, [], ◌∷◌, ◌++◌, length, take, drop, filter, flat_map, refl, sym, ◌∙◌, ap, arith, inl, inr, nat_le, subst, length-drop}
use Rattle.std.proofs.lemmas.Bool.{cases_lt, cases_Bool, le-leb}
use Rattle.std.proofs.lemmas.List.{length-take-le, take-take, drop-take}
use Rattle.std.proofs.lemmas.Grind.{flat_map-append}
use Rattle.std.specs.List.{position_or_len, before_first, after_first}
use Rattle.lp_model.specs.Lines.{Line, is_counted, is_lf, ended_line, last_line, lines_to_come, lines_of}
use Rattle.lp_model.specs.Reading.{Format, Record, lines_before, reading_behind, records_in, records_read, records_of, columns_behind}
use Rattle.lp_model.proofs.Between.{lines_between-all}
use Rattle.lp_model.proofs.Cutting.{lines_to_come-ended, lines_to_come-last}
use Rattle.lp_model.proofs.Ordered.{Ordered, ordered_lines, ends_by, none_by, leb_false, lines_before-start}

-- where LF first stands in the front of bytes

first_in_front : (k : ℕ) (bytes : List ℕ) → position_or_len is_lf bytes < k → position_or_len is_lf (take k bytes) ≡ position_or_len is_lf bytes
first_in_front zero bytes there = absurd (omega arith)
first_in_front (suc k) [] there = refl
first_in_front (suc k) (x ∷ bytes) there = elim (cases_Bool (is_lf x)) [
  | inl e ↦ rw e refl
  | inr e ↦ let inner : position_or_len is_lf bytes < k = let h = rw e at there in omega (arith, h) in rw e (ap (λ n. 1 + n) (first_in_front k bytes inner))
]

none_in_front : (k : ℕ) (bytes : List ℕ) → k ≤ position_or_len is_lf bytes → length (take k bytes) ≤ position_or_len is_lf (take k bytes)
none_in_front zero bytes none = omega arith
none_in_front (suc k) [] none = omega arith
none_in_front (suc k) (x ∷ bytes) none = elim (cases_Bool (is_lf x)) [
  | inl e ↦ let h = rw e at none in absurd (omega (arith, h))
  | inr e ↦
      let inner : k ≤ position_or_len is_lf bytes = let h = rw e at none in omega (arith, h) in
      let rest = none_in_front k bytes inner in
      rw e (omega (arith, rest))
]

-- the last line without LF doesn't end by a place before it, and where lines wait it is none

abbrev Passed : Bool → ℕ → List ℕ → Type 0
Passed waits place bytes = (waits ≡ true) ⊎ (place < length bytes)

last_passed : (waits : Bool) (number start place : ℕ) (bytes : List ℕ) → Passed waits place bytes → filter (ends_by (start + place)) (filter (is_counted waits) (last_line number start bytes ∷ [])) ≡ []
last_passed waits number start place bytes (inl e) = subst (λ (b : Bool). filter (ends_by (start + place)) (filter (is_counted b) (last_line number start bytes ∷ [])) ≡ []) (sym e) refl
last_passed waits number start place bytes (inr lt) =
    let late : nat_le (start + length bytes) (start + place) ≡ false = leb_false (start + length bytes) (start + place) (omega arith) in
    elim (cases_Bool (is_counted waits (last_line number start bytes))) [ inl e ↦ rw (e, late) refl | inr e ↦ rw e refl ]

none_ended : (number start : ℕ) (bytes : List ℕ) → length bytes ≤ position_or_len is_lf bytes → lines_to_come true number start bytes ≡ []
none_ended number start bytes none = lines_to_come-last true number start bytes none

unended : (waits : Bool) (number start place : ℕ) (bytes : List ℕ) → place ≤ length bytes → Passed waits place bytes → length bytes ≤ position_or_len is_lf bytes
    → filter (ends_by (start + place)) (lines_to_come waits number start bytes) ≡ lines_to_come true number start (take place bytes)
unended waits number start place bytes fits passed none =
    ap (filter (ends_by (start + place))) (lines_to_come-last waits number start bytes none)
    ∙ (last_passed waits number start place bytes passed ∙ sym (none_ended number start (take place bytes) (none_in_front place bytes (omega arith))))

up_to : (n : ℕ) (waits : Bool) (number start place : ℕ) (bytes : List ℕ) → length bytes ≤ n → place ≤ length bytes → Passed waits place bytes
    → filter (ends_by (start + place)) (lines_to_come waits number start bytes) ≡ lines_to_come true number start (take place bytes)
up_to zero waits number start place bytes small fits passed = elim (cases_lt (position_or_len is_lf bytes) (length bytes)) [
  | inl there ↦ absurd (omega arith)
  | inr none ↦ unended waits number start place bytes fits passed none
]
up_to (suc n) waits number start place bytes small fits passed = elim (cases_lt (position_or_len is_lf bytes) (length bytes)) [
  | inr none ↦ unended waits number start place bytes fits passed none
  | inl there ↦
      let i : ℕ = position_or_len is_lf bytes in
      let k : ℕ = i + 1 in
      let before = before_first is_lf bytes in
      let after = after_first is_lf bytes in
      let front : length before ≡ i = length-take-le i bytes (omega arith) in
      let back : length after ≡ length bytes - k = length-drop k bytes in
      let start' : ℕ = start + length before + 1 in
      let line = ended_line number start before in
      let long : lines_to_come waits number start bytes ≡ line ∷ lines_to_come waits (number + 1) start' after = lines_to_come-ended waits number start bytes there in
      elim (cases_lt i place) [
        | inl early ↦
            let first : position_or_len is_lf (take place bytes) ≡ i = first_in_front place bytes early in
            let size : length (take place bytes) ≡ place = length-take-le place bytes fits in
            let there' : position_or_len is_lf (take place bytes) < length (take place bytes) = omega arith in
            let same_before : before_first is_lf (take place bytes) ≡ before = ap (λ p. take p (take place bytes)) first ∙ take-take i place bytes (omega arith) in
            let whole : k + (place - k) ≡ place = omega arith in
            let same_after : after_first is_lf (take place bytes) ≡ take (place - k) after = ap (λ p. drop (p + 1) (take place bytes)) first ∙ (ap (λ p. drop k (take p bytes)) (sym whole) ∙ drop-take k (place - k) bytes) in
            let short : lines_to_come true number start (take place bytes) ≡ line ∷ lines_to_come true (number + 1) start' (take (place - k) after) =
            lines_to_come-ended true number start (take place bytes) there'
            ∙ (λ i. ended_line number start (same_before i) ∷ lines_to_come true (number + 1) (start + length (same_before i) + 1) (same_after i)) in
            let inner_passed : Passed waits (place - k) after = elim passed [ inl e ↦ inl e | inr lt ↦ inr (omega arith) ] in
            let inner = up_to n waits (number + 1) start' (place - k) after (omega arith) (omega arith) inner_passed in
            let place_is : start' + (place - k) ≡ start + place = omega arith in
            let rest = subst (λ (p : ℕ). filter (ends_by p) (lines_to_come waits (number + 1) start' after) ≡ lines_to_come true (number + 1) start' (take (place - k) after)) place_is inner in
            let keep : nat_le start' (start + place) ≡ true = le-leb start' (start + place) (omega arith) in
            let kept : filter (ends_by (start + place)) (line ∷ lines_to_come waits (number + 1) start' after) ≡ line ∷ filter (ends_by (start + place)) (lines_to_come waits (number + 1) start' after) = rw keep refl in
            ap (filter (ends_by (start + place))) long ∙ (kept ∙ (ap (λ t. line ∷ t) rest ∙ sym short))
        | inr late ↦
            let drop_it : nat_le start' (start + place) ≡ false = leb_false start' (start + place) (omega arith) in
            let none = none_by start' (start + place) (lines_to_come waits (number + 1) start' after) (ordered_lines (length after) after waits (number + 1) start' (omega arith)) (omega arith) in
            let gone : filter (ends_by (start + place)) (line ∷ lines_to_come waits (number + 1) start' after) ≡ [] = rw drop_it none in
            ap (filter (ends_by (start + place))) long ∙ (gone ∙ sym (none_ended number start (take place bytes) (none_in_front place bytes late)))
      ]
]

pub before_taken : (bytes : List ℕ) (waits : Bool) (place : ℕ) → place ≤ length bytes → (waits ≡ true) ⊎ (place < length bytes) → lines_before bytes waits place ≡ lines_of (take place bytes) true
before_taken bytes waits place fits passed =
    let h = up_to (length bytes) waits 1 0 place bytes (omega arith) fits passed in
    let e : 0 + place ≡ place = omega arith in
    subst (λ (p : ℕ). filter (ends_by p) (lines_of bytes waits) ≡ lines_of (take place bytes) true) e h

-- what is made of lines that end by a place is the same, if it is of each
each_up_to : {X : Type 0} (f g : Line → List X) (to : ℕ) (lines : List Line) (p : ℕ) → Ordered p lines → ((line : Line) → line.start < line.end → line.end ≤ to → f line ≡ g line)
    → flat_map f (filter (ends_by to) lines) ≡ flat_map g (filter (ends_by to) lines)
each_up_to f g to [] p o same = refl
each_up_to f g to (line ∷ lines) p (a, b, o) same = elim (cases_lt to line.end) [
  | inl late ↦ let e : nat_le line.end to ≡ false = leb_false line.end to late in rw e (each_up_to f g to lines line.end o same)
  | inr early ↦
      let e : nat_le line.end to ≡ true = le-leb line.end to early in
      let more = each_up_to f g to lines line.end o same in
      rw e (λ i. same line b early i ++ more i)
]

-- the rows of the lines that end by a place are those of the bytes up to there
pub records_taken : (format : Format) (bytes : List ℕ) (waits : Bool) (place : ℕ) → place ≤ length bytes → (waits ≡ true) ⊎ (place < length bytes)
    → flat_map (records_in format bytes waits) (lines_before bytes waits place) ≡ records_of format (take place bytes) true 0 (length (take place bytes))
records_taken format bytes waits place fits passed =
    let b = take place bytes in
    let size : length b ≡ place = length-take-le place bytes fits in
    let alike : (at : ℕ) → at ≤ place → lines_before bytes waits at ≡ lines_before b true at =
    λ at le.
    let within : (waits ≡ true) ⊎ (at < length bytes) = elim passed [ inl e ↦ inl e | inr lt ↦ inr (omega arith) ] in
    let outer = before_taken bytes waits at (omega arith) within in
    let inner = before_taken b true at (omega arith) (inl refl) in
    outer ∙ (ap (λ t. lines_of t true) (sym (take-take at place bytes le)) ∙ sym inner) in
    let same : (line : Line) → line.start < line.end → line.end ≤ place → records_in format bytes waits line ≡ records_in format b true line =
    λ line order le.
    ap (λ t. records_read line.number (columns_behind format t) (reading_behind format (lines_before bytes waits line.start) line)) (alike line.end le)
    ∙ ap (λ t. records_read line.number (columns_behind format (lines_before b true line.end)) (reading_behind format t line)) (alike line.start (omega arith)) in
    each_up_to (records_in format bytes waits) (records_in format b true) place (lines_of bytes waits) 0 (ordered_lines (length bytes) bytes waits 1 0 (omega arith)) same
    ∙ (ap (flat_map (records_in format b true)) (before_taken bytes waits place fits passed) ∙ ap (flat_map (records_in format b true)) (sym (lines_between-all b true)))

-- the lines that end by one place begin those that end by a later one
front_by : (p first second : ℕ) (lines : List Line) → Ordered p lines → first ≤ second → (more : List Line) × (filter (ends_by second) lines ≡ filter (ends_by first) lines ++ more)
front_by p first second [] o le = ([], refl)
front_by p first second (line ∷ lines) (a, b, o) le = elim (cases_lt first line.end) [
  | inl late ↦
      let e : nat_le line.end first ≡ false = leb_false line.end first late in
      let none : filter (ends_by first) (line ∷ lines) ≡ [] = rw e (none_by line.end first lines o (omega arith)) in
      (filter (ends_by second) (line ∷ lines), ap (λ t. t ++ filter (ends_by second) (line ∷ lines)) (sym none))
  | inr early ↦
      let e : nat_le line.end first ≡ true = le-leb line.end first early in
      let f : nat_le line.end second ≡ true = le-leb line.end second (omega arith) in
      let rest = front_by line.end first second lines o le in
      (rest.0, rw (e, f) (ap (λ t. line ∷ t) rest.1))
]

-- so do the rows
pub records_begin : (format : Format) (bytes : List ℕ) (first second : ℕ) → first ≤ second → second ≤ length bytes
    → (more : List Record) × (records_of format (take second bytes) true 0 (length (take second bytes)) ≡ records_of format (take first bytes) true 0 (length (take first bytes)) ++ more)
records_begin format bytes first second le fits =
    let f = records_in format bytes true in
    let one = records_taken format bytes true first (omega arith) (inl refl) in
    let two = records_taken format bytes true second fits (inl refl) in
    let rest = front_by 0 first second (lines_of bytes true) (ordered_lines (length bytes) bytes true 1 0 (omega arith)) le in
    (flat_map f rest.0, sym two ∙ (ap (flat_map f) rest.1 ∙ (flat_map-append f (lines_before bytes true first) rest.0 ∙ ap (λ t. t ++ flat_map f rest.0) one)))

-- all lines end by any place at the end or behind it

one_by : (waits : Bool) (number start to : ℕ) (bytes : List ℕ) → start + length bytes ≤ to → filter (ends_by to) (filter (is_counted waits) (last_line number start bytes ∷ [])) ≡ filter (is_counted waits) (last_line number start bytes ∷ [])
one_by waits number start to bytes high =
    let f : nat_le (start + length bytes) to ≡ true = le-leb (start + length bytes) to high in
    elim (cases_Bool (is_counted waits (last_line number start bytes))) [ inl e ↦ rw (e, f) refl | inr e ↦ rw e refl ]

all_by : (n : ℕ) (bytes : List ℕ) (waits : Bool) (number start to : ℕ) → length bytes ≤ n → start + length bytes ≤ to → filter (ends_by to) (lines_to_come waits number start bytes) ≡ lines_to_come waits number start bytes
all_by zero bytes waits number start to small high = elim (cases_lt (position_or_len is_lf bytes) (length bytes)) [
  | inl there ↦ absurd (omega arith)
  | inr none ↦ let e = lines_to_come-last waits number start bytes none in ap (filter (ends_by to)) e ∙ (one_by waits number start to bytes high ∙ sym e)
]
all_by (suc n) bytes waits number start to small high = elim (cases_lt (position_or_len is_lf bytes) (length bytes)) [
  | inl there ↦
      let before = before_first is_lf bytes in
      let after = after_first is_lf bytes in
      let line = ended_line number start before in
      let front : length before ≡ position_or_len is_lf bytes = length-take-le (position_or_len is_lf bytes) bytes (omega arith) in
      let back : length after ≡ length bytes - (position_or_len is_lf bytes + 1) = length-drop (position_or_len is_lf bytes + 1) bytes in
      let more = all_by n after waits (number + 1) (start + length before + 1) to (omega arith) (omega arith) in
      let yes : nat_le (start + length before + 1) to ≡ true = le-leb (start + length before + 1) to (omega arith) in
      let first : filter (ends_by to) (line ∷ lines_to_come waits (number + 1) (start + length before + 1) after) ≡ line ∷ lines_to_come waits (number + 1) (start + length before + 1) after = rw yes (ap (λ t. line ∷ t) more) in
      let e = lines_to_come-ended waits number start bytes there in
      ap (filter (ends_by to)) e ∙ (first ∙ sym e)
  | inr none ↦ let e = lines_to_come-last waits number start bytes none in ap (filter (ends_by to)) e ∙ (one_by waits number start to bytes high ∙ sym e)
]

-- so the rows up to there are all rows
pub records_whole : (format : Format) (bytes : List ℕ) (waits : Bool) (place : ℕ) → length bytes ≤ place → flat_map (records_in format bytes waits) (lines_before bytes waits place) ≡ records_of format bytes waits 0 (length bytes)
records_whole format bytes waits place le =
    ap (flat_map (records_in format bytes waits)) (all_by (length bytes) bytes waits 1 0 place (omega arith) (omega arith) ∙ sym (lines_between-all bytes waits))

-- none end by the start
pub records_none : (format : Format) (bytes : List ℕ) (waits : Bool) → flat_map (records_in format bytes waits) (lines_before bytes waits 0) ≡ []
records_none format bytes waits = ap (flat_map (records_in format bytes waits)) (lines_before-start bytes waits)
