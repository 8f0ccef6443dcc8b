-- Where complete lines begin and end.
use Rattle.std.proofs.Common.{◌≡◌, ◌⊎◌, ⊎_elim, ℕ, zero, suc, ◌+◌, ◌-◌, ◌<◌, ◌≤◌, true, false, List, [], ◌∷◌, ◌++◌, length, drop, filter, get_or, sym, ◌∙◌, ap, arith, inl, inr, nat_le, subst, length-drop}
use Rattle.std.specs.List.{AllByRecursion, position_or_len, before_first, after_first}
use Rattle.std.proofs.lemmas.Bool.{cases_lt, le-leb}
use Rattle.std.proofs.lemmas.Bool.Decides.{nat_tests, eqb_tells}
use Rattle.std.proofs.lemmas.List.{get_or-drop, length-take-le}
use Rattle.std.proofs.lemmas.List.Sums.{passes_at_first}
use Rattle.lp_model.specs.Lines.{Line, is_lf, ended_line, lines_to_come, lines_of}
use Rattle.lp_model.specs.Reading.{lines_before}
use Rattle.lp_model.specs.Following.{IsLineEnd}
use Rattle.lp_model.proofs.Cutting.{lines_to_come-ended, lines_to_come-last}
use Rattle.lp_model.proofs.Ordered.{Ordered, ordered_lines, ends_by, lines_behind_end, leb_false}
use Rattle.lp_model.specs.Complete.{IsAmong, IsLine}

pub among_left : {X : Type 0} (x : X) (xs ys : List X) → IsAmong x xs → IsAmong x (xs ++ ys)
among_left x [] ys h = absurd h
among_left x (y ∷ xs) ys (inl e) = inl e
among_left x (y ∷ xs) ys (inr h) = inr (among_left x xs ys h)

pub among_right : {X : Type 0} (x : X) (xs ys : List X) → IsAmong x ys → IsAmong x (xs ++ ys)
among_right x [] ys h = h
among_right x (y ∷ xs) ys h = inr (among_right x xs ys h)

pub among_cases : {X : Type 0} (x : X) (xs ys : List X) → IsAmong x (xs ++ ys) → IsAmong x xs ⊎ IsAmong x ys
among_cases x [] ys h = inr h
among_cases x (y ∷ xs) ys (inl e) = inl (inl e)
among_cases x (y ∷ xs) ys (inr h) = ⊎_elim (λ l. inl (inr l)) (λ r. inr r) (among_cases x xs ys h)

-- a line ends so many bytes behind a start, at an end of a line of these bytes
record EndsBehind (start : ℕ) (bytes : List ℕ) (line : Line) : Type 0 where
  count : ℕ
  end_is : line.end ≡ start + count
  ends : IsLineEnd bytes count

all_with : {X : Type 0} (P Q : X → Type 0) → ((x : X) → P x → Q x) → (xs : List X) → AllByRecursion P xs → AllByRecursion Q xs
all_with P Q to [] all = tt
all_with P Q to (x ∷ xs) (p, all) = (to x p, all_with P Q to xs all)

pub all_among : {X : Type 0} (P : X → Type 0) (x : X) (xs : List X) → AllByRecursion P xs → IsAmong x xs → P x
all_among P x [] all among = absurd among
all_among P x (y ∷ xs) (p, all) (inl e) = subst P (sym e) p
all_among P x (y ∷ xs) (p, all) (inr among) = all_among P x xs all among

lf_at : (byte : ℕ) → is_lf byte ≡ true → byte ≡ 10
lf_at byte e = grind (arith, nat_tests, eqb_tells)

further : (bytes : List ℕ) (k count : ℕ) → k ≤ length bytes → IsLineEnd bytes k → IsLineEnd (drop k bytes) count → IsLineEnd bytes (k + count)
further bytes k count le is (inl e) = subst (IsLineEnd bytes) (omega arith) is
further bytes k count le is (inr (some, high, lf)) =
    let size : length (drop k bytes) ≡ length bytes - k = length-drop k bytes in
    let at : k + (count - 1) ≡ k + count - 1 = omega arith in
    inr (omega arith, omega arith, ap (λ i. get_or bytes i 0) (sym at) ∙ (sym (get_or-drop k bytes (count - 1) 0) ∙ lf))

each_ends : (n : ℕ) (number start : ℕ) (bytes : List ℕ) → length bytes ≤ n → AllByRecursion (EndsBehind start bytes) (lines_to_come true number start bytes)
each_ends zero number start bytes small = elim (cases_lt (position_or_len is_lf bytes) (length bytes)) [
  | inl there ↦ absurd (omega arith)
  | inr none ↦ subst (AllByRecursion (EndsBehind start bytes)) (sym (lines_to_come-last true number start bytes none)) tt
]
each_ends (suc n) number start bytes small = elim (cases_lt (position_or_len is_lf bytes) (length bytes)) [
  | inl there ↦
      let before = before_first is_lf bytes in
      let after = after_first is_lf bytes in
      let k : ℕ = position_or_len is_lf bytes + 1 in
      let front : length before ≡ position_or_len is_lf bytes = length-take-le (position_or_len is_lf bytes) bytes (omega arith) in
      let back : length after ≡ length bytes - k = length-drop k bytes in
      let at : k - 1 ≡ position_or_len is_lf bytes = omega arith in
      let ends : IsLineEnd bytes k = inr (omega arith, omega arith, ap (λ i. get_or bytes i 0) at ∙ lf_at (get_or bytes (position_or_len is_lf bytes) 0) (passes_at_first is_lf bytes 0 there)) in
      let more = each_ends n (number + 1) (start + length before + 1) after (omega arith) in
      let first : EndsBehind start bytes (ended_line number start before) = record { count = k; end_is = omega arith; ends = ends } in
      let rest = all_with (EndsBehind (start + length before + 1) after) (EndsBehind start bytes)
      (λ line e. let is = e.end_is in record { count = k + e.count; end_is = omega arith; ends = further bytes k e.count (omega arith) ends e.ends })
      (lines_to_come true (number + 1) (start + length before + 1) after) more in
      subst (AllByRecursion (EndsBehind start bytes)) (sym (lines_to_come-ended true number start bytes there)) (first, rest)
  | inr none ↦ subst (AllByRecursion (EndsBehind start bytes)) (sym (lines_to_come-last true number start bytes none)) tt
]

-- a complete line ends at an end of a line
pub line_ends : (bytes : List ℕ) (line : Line) → IsLine bytes line → IsLineEnd bytes line.end
line_ends bytes line among =
    let e = all_among (EndsBehind 0 bytes) line (lines_of bytes true) (each_ends (length bytes) 1 0 bytes (omega arith)) among in
    let is = e.end_is in
    subst (IsLineEnd bytes) (omega arith) e.ends

starts_first : (p : ℕ) (lines : List Line) (line : Line) → Ordered p lines → IsAmong line lines → (p ≤ line.start) × (line.start < line.end)
starts_first p [] line o among = absurd among
starts_first p (other ∷ lines) line (a, b, o) (inl e) = subst (λ (l : Line). (p ≤ l.start) × (l.start < l.end)) (sym e) (a, b)
starts_first p (other ∷ lines) line (a, b, o) (inr among) = let more = starts_first other.end lines line o among in (omega arith, more.1)

-- and starts before it
pub line_order : (bytes : List ℕ) (line : Line) → IsLine bytes line → line.start < line.end
line_order bytes line among = (starts_first 0 (lines_of bytes true) line (ordered_lines (length bytes) bytes true 1 0 (omega arith)) among).1

by_place : (place : ℕ) (lines : List Line) (line : Line) → IsAmong line (filter (ends_by place) lines) → line.end ≤ place
by_place place [] line among = absurd among
by_place place (other ∷ lines) line among = elim (cases_lt place other.end) [
  | inl late ↦ let e : nat_le other.end place ≡ false = leb_false other.end place late in by_place place lines line (rw e at among)
  | inr early ↦
      let e : nat_le other.end place ≡ true = le-leb other.end place early in
      let here : (line ≡ other) ⊎ IsAmong line (filter (ends_by place) lines) = rw e at among in
      ⊎_elim (λ is. subst (λ (l : Line). l.end ≤ place) (sym is) early) (λ more. by_place place lines line more) here
]

-- at an end of a line none is cut: a line that starts before it ends by it
pub line_clears : (bytes : List ℕ) (line : Line) (place : ℕ) → IsLine bytes line → IsLineEnd bytes place → line.start < place → line.end ≤ place
line_clears bytes line place among is_end before =
    let pre = lines_before bytes true place in
    let post = lines_to_come true (length pre + 1) place (drop place bytes) in
    let split : IsAmong line (pre ++ post) = subst (IsAmong line) (lines_behind_end bytes true place is_end) among in
    ⊎_elim (λ a. by_place place (lines_of bytes true) line a)
    (λ b. absurd (let more = starts_first place post line (ordered_lines (length (drop place bytes)) (drop place bytes) true (length pre + 1) place (omega arith)) b in omega arith))
    (among_cases line pre post split)
