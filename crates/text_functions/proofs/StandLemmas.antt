-- Where a run stands, found by one of its bytes.
use Rattle.std.specs.Char.{to_ascii_lowercase}
use Rattle.std.specs.List.{list_any, position_or_len}
use Rattle.std.specs.Str.{IsUtf8, IsCharBoundary}
use Rattle.std.proofs.Common.{◌≡◌, ◌↔◌, ℕ, zero, suc, ◌+◌, ◌-◌, ◌<◌, ◌≤◌, ◌==◌, Bool, true, false, not, List, [], ◌∷◌, ◌++◌, map, length, take, drop, get_or, refl, sym, ap, subst, ◌∙◌, arith, ⊎_elim}
use Rattle.std.proofs.lemmas.Bool.{and_from, cases_lt, false≢true, or_from, or_cases, eqb-true, false_from_ne_true, not-true}
use Rattle.std.proofs.lemmas.List.{length-take, length-drop, get_or-take, get_or-drop, take_all, take_at, drop_at, take-append-drop, drop-drop, drop_more, length-append}
use Rattle.std.proofs.lemmas.List.Sums.{prefix_len_passes}
use Rattle.std.proofs.lemmas.Slice.Zip.{length-zip, get_or-zip}
use Rattle.std.proofs.lemmas.Str.{IsUtf8-take, IsUtf8-drop, IsCharBoundary-before_ascii, IsCharBoundary-after_ascii}
use Rattle.memchr.specs.Find.{Passes, Nowhere, is_byte2}
use Rattle.memchr.specs.Find.{NoneBefore as First}
use Rattle.byte_masks.specs.declared.set.ByteSet.{ByteSet}
use Rattle.byte_masks.specs.Places.{is_in, are_in, pairs_of, IsNextPlace}
use Rattle.text_functions.specs.Runs.{IsSame, StandsAt, StandsNowhere, IsFirstStand, LacksRun, IsBehindFirst, EndsWithRun, IsPlain, is_sign}
use Rattle.text_functions.proofs.CaseLemmas.{same_length, same_at, run_parts}

-- where a run stands there is room for it
pub stand_fits : (run text : List ℕ) (at : ℕ) → 0 < length run → StandsAt run text at → at + length run ≤ length text
stand_fits run text at some stands =
    let size = same_length (take (length run) (drop at text)) run stands in
    omega (arith, length-take (length run) (drop at text), length-drop at text)

-- a set that has a byte of the run in both cases
abbrev pub Covers : ByteSet → ℕ → Type 0
Covers set byte = (other : ℕ) → to_ascii_lowercase other ≡ to_ascii_lowercase byte → is_in set other ≡ true

-- a run that stands has its byte there
stand_hits : (run text : List ℕ) (set : ByteSet) (offset at : ℕ) → offset < length run → Covers set (get_or run offset 0) → StandsAt run text at → is_in set (get_or text (at + offset) 0) ≡ true
stand_hits run text set offset at within covers stands =
    let fits = stand_fits run text at (omega arith) stands in
    let size = same_length (take (length run) (drop at text)) run stands in
    let here = same_at (take (length run) (drop at text)) run offset stands (omega arith) in
    let is : get_or (take (length run) (drop at text)) offset 0 ≡ get_or text (at + offset) 0 = get_or-take (length run) (drop at text) offset 0 within ∙ get_or-drop at text offset 0 in
    covers (get_or text (at + offset) 0) (ap to_ascii_lowercase (sym is) ∙ here)

-- two bytes of a run, and sets that have them in both cases
pub record IsSought (run : List ℕ) (first second : ByteSet) (left right : ℕ) : Type 0 where
  pub order : left ≤ right
  pub within : right < length run
  pub first_covers : Covers first (get_or run left 0)
  pub second_covers : Covers second (get_or run right 0)

-- a run that stands has both
stand_pair : (run text : List ℕ) (first second : ByteSet) (left right at : ℕ) → IsSought run first second left right → StandsAt run text at
    → (at + left < length (pairs_of (right - left) text)) × (are_in first second (get_or (pairs_of (right - left) text) (at + left) (0, 0)) ≡ true)
stand_pair run text first second left right at sought stands =
    let order = sought.order in
    let within = sought.within in
    let fits = stand_fits run text at (omega arith) stands in
    let apart : ℕ = right - left in
    let rest : List ℕ = drop apart text in
    let size = length-drop apart text in
    let there : apart + (at + left) ≡ at + right = omega arith in
    let pair : get_or (pairs_of apart text) (at + left) (0, 0) ≡ (get_or text (at + left) 0, get_or rest (at + left) 0) = get_or-zip text rest (at + left) (0, 0) (omega arith) (omega arith) in
    let a = stand_hits run text first left at (omega arith) sought.first_covers stands in
    let b : is_in second (get_or rest (at + left) 0) ≡ true =
    ap (is_in second) (get_or-drop apart text (at + left) 0 ∙ ap (λ (n : ℕ). get_or text n 0) there) ∙ stand_hits run text second right at within sought.second_covers stands in (
      omega (arith, length-zip text rest),
      ap (are_in first second) pair ∙ and_from (is_in first (get_or text (at + left) 0)) (is_in second (get_or rest (at + left) 0)) a b,
    )

misses : {X : Type 0} (passes : X → Bool) (xs : List X) (at i : ℕ) (d : X) → i < position_or_len passes (drop at xs) → passes (get_or xs (at + i) d) ≡ false
misses passes xs at i d lt =
    ap passes (sym (get_or-drop at xs i d)) ∙ not-true (passes (get_or (drop at xs) i d)) (prefix_len_passes (λ x. not (passes x)) (drop at xs) i d lt)

-- no stand of the run has its byte before a place
abbrev pub NoneBefore : List ℕ → List ℕ → ℕ → ℕ → Type 0
NoneBefore run text left place = (at : ℕ) → at + left < place → ¬ (StandsAt run text at)

-- a stand has its byte before a place, or from there on at least so far behind it as the next pair
further : (run text : List ℕ) (first second : ByteSet) (left right from at : ℕ) → IsSought run first second left right → NoneBefore run text left from → StandsAt run text at
    → (from ≤ at + left) × (position_or_len (are_in first second) (drop from (pairs_of (right - left) text)) ≤ at + left - from)
further run text first second left right from at sought none stands =
    let ps : List (ℕ × ℕ) = pairs_of (right - left) text in
    let q : ℕ × ℕ → Bool = are_in first second in
    let pair = stand_pair run text first second left right at sought stands in
    let late : from ≤ at + left = ⊎_elim (λ before. absurd (none at before stands)) (λ ge. ge) (cases_lt (at + left) from) in
    let i : ℕ = at + left - from in
    let there : from + i ≡ at + left = omega arith in (
      late,
      ⊎_elim
          (λ lt. absurd (false≢true (sym (misses q ps from i (0, 0) lt) ∙ (ap (λ (n : ℕ). q (get_or ps n (0, 0))) there ∙ pair.1))))
          (λ ge. ge)
          (cases_lt i (position_or_len q (drop from ps))),
    )

-- nor before the next pair
pub none_before : (run text : List ℕ) (first second : ByteSet) (left right from place : ℕ) → IsSought run first second left right → NoneBefore run text left from → IsNextPlace (are_in first second) (pairs_of (right - left) text) from place → NoneBefore run text left place
none_before run text first second left right from place sought none next at lt stands =
    let far = further run text first second left right from at sought none stands in
    absurd (omega (arith, next.0, far.0, far.1))

-- nor at it, where the run doesn't stand
pub none_at : (run text : List ℕ) (left place : ℕ) → left ≤ place → NoneBefore run text left place → ¬ (StandsAt run text (place - left)) → NoneBefore run text left (place + 1)
none_at run text left place fits none not_here at lt stands = ⊎_elim
    (λ before. none at before stands)
    (λ ge. let e : at ≡ place - left = omega arith in not_here (subst (StandsAt run text) e stands))
    (cases_lt (at + left) place)

-- nor behind it, where there is no further pair
pub none_behind : (run text : List ℕ) (first second : ByteSet) (left right from : ℕ) → IsSought run first second left right → NoneBefore run text left from
    → length (drop from (pairs_of (right - left) text)) ≤ position_or_len (are_in first second) (drop from (pairs_of (right - left) text)) → StandsNowhere run text
none_behind run text first second left right from sought none ended at stands =
    let ps : List (ℕ × ℕ) = pairs_of (right - left) text in
    let far = further run text first second left right from at sought none stands in
    let pair = stand_pair run text first second left right at sought stands in
    absurd (omega (arith, ended, far.0, far.1, pair.0, length-drop from ps))

-- a place of a pair is one of the text
pub pair_within : (text : List ℕ) (apart place : ℕ) → place < length (pairs_of apart text) → place + apart < length text
pair_within text apart place lt = omega (arith, length-zip text (drop apart text), length-drop apart text)

-- by lists
stand_of : (run text front found rest : List ℕ) → text ≡ front ++ (found ++ rest) → IsSame found run → StandsAt run text (length front)
stand_of run text front found rest whole same =
    let behind : drop (length front) text ≡ found ++ rest = ap (drop (length front)) whole ∙ drop_at front (found ++ rest) (length front) refl in
    let here : take (length run) (drop (length front) text) ≡ found = ap (take (length run)) behind ∙ take_at found rest (length run) (same_length found run same) in
    ap (map to_ascii_lowercase) here ∙ same

pub lacks_run : (run text : List ℕ) → StandsNowhere run text → LacksRun run text
lacks_run run text none front found rest whole same = none (length front) (stand_of run text front found rest whole same)

pub whole_at : (run text : List ℕ) (at : ℕ) → text ≡ take at text ++ (take (length run) (drop at text) ++ drop (at + length run) text)
whole_at run text at =
    sym (take-append-drop at text) ∙ ap (λ xs. take at text ++ xs) (sym (take-append-drop (length run) (drop at text)) ∙ ap (λ xs. take (length run) (drop at text) ++ xs) (drop-drop (length run) at text))

pub behind_first : (run text behind : List ℕ) (at : ℕ) → IsFirstStand run text at → behind ≡ drop (at + length run) text → IsBehindFirst run text behind
behind_first run text behind at stand e = record {
  before = take at text;
  found = take (length run) (drop at text);
  whole = whole_at run text at ∙ ap (λ xs. take at text ++ (take (length run) (drop at text) ++ xs)) (sym e);
  same = stand.here;
  first = λ front other rest whole same. ⊎_elim
      (λ lt. absurd (stand.first (length front) lt (stand_of run text front other rest whole same)))
      (λ ge. omega (arith, length-take at text))
      (cases_lt (length front) at);
}

-- the text may be cut behind it
pub cut_behind : (run text : List ℕ) (at : ℕ) → IsUtf8 text → IsUtf8 run → 0 < length run → StandsAt run text at → IsCharBoundary text (at + length run)
cut_behind run text at utf8 run-utf8 some stands =
    let fits = stand_fits run text at some stands in
    let parts = run_parts text run (take at text) (take (length run) (drop at text)) (drop (at + length run) text) utf8 run-utf8 some (whole_at run text at) stands in
    let size = same_length (take (length run) (drop at text)) run stands in
    let e : length (take at text) + length (take (length run) (drop at text)) ≡ at + length run = omega (arith, length-take at text) in
    subst (IsCharBoundary text) e parts.cut

-- at the end
pub ends_with : (run text : List ℕ) → length run ≤ length text → StandsAt run text (length text - length run) ↔ EndsWithRun run text
ends_with run text fits =
    let at : ℕ = length text - length run in
    let left : length (drop at text) ≤ length run = omega (arith, length-drop at text) in
    let all : take (length run) (drop at text) ≡ drop at text = take_all (length run) (drop at text) left in (
      λ stands. (take at text, drop at text, sym (take-append-drop at text), ap (map to_ascii_lowercase) (sym all) ∙ stands),
      λ ends.
          let size = same_length ends.1 run ends.3 in
          let sizes : length text ≡ length ends.0 + length ends.1 = ap length ends.2 ∙ length-append ends.0 ends.1 in
          let e : length ends.0 ≡ at = omega arith in
          let rest : drop at text ≡ ends.1 = ap (drop at) ends.2 ∙ drop_at ends.0 ends.1 at e in
          ap (map to_ascii_lowercase) (all ∙ rest) ∙ ends.3,
    )

pub ends_short : (run text : List ℕ) → length text < length run → ¬ (EndsWithRun run text)
ends_short run text short ends =
    let size = same_length ends.1 run ends.3 in
    let sizes : length text ≡ length ends.0 + length ends.1 = ap length ends.2 ∙ length-append ends.0 ends.1 in
    absurd (omega arith)

-- the bytes before the first sign
pub plain_take : (n : ℕ) (xs : List ℕ) → ((k : ℕ) → k < n → is_sign (get_or xs k 0) ≡ true → ⊥) → IsPlain (take n xs)
plain_take zero xs none = refl
plain_take (suc n) [] none = refl
plain_take (suc n) (x ∷ xs) none =
    or_from (is_sign x) (list_any is_sign (take n xs)) (false_from_ne_true (is_sign x) (none 0 (omega arith))) (plain_take n xs (λ k lt. none (suc k) (omega arith)))

-- the first sign of a pattern
pub record IsFirstSign (pattern : List ℕ) (place : ℕ) : Type 0 where
  pub within : place < length pattern
  pub is : is_sign (get_or pattern place 0) ≡ true
  pub plain : IsPlain (take place pattern)

pub first_sign : (pattern hay : List ℕ) (place : ℕ) → hay ≡ pattern → First (Passes (is_byte2 37 95) hay) 0 (length hay) place → Passes (is_byte2 37 95) hay place → IsFirstSign pattern place
first_sign pattern hay place e none is =
    let size = ap length e in
    let within = none.high in
    record {
      within = omega arith;
      is = sym (ap (λ xs. is_sign (get_or xs place 0)) e) ∙ is;
      plain = plain_take place pattern (λ k lt passes. none.before k (omega arith) lt (ap (λ xs. is_sign (get_or xs k 0)) e ∙ passes));
    }

pub no_sign : (pattern hay : List ℕ) → hay ≡ pattern → Nowhere (Passes (is_byte2 37 95) hay) 0 (length hay) → IsPlain pattern
no_sign pattern hay e none =
    let size = ap length e in
    subst IsPlain (take_all (length pattern) pattern (omega arith)) (plain_take (length pattern) pattern (λ k lt passes. none k (omega arith) (omega arith) (ap (λ xs. is_sign (get_or xs k 0)) e ∙ passes)))

pub split_at_sign : (pattern : List ℕ) (place sign : ℕ) → place < length pattern → get_or pattern place 0 ≡ sign → pattern ≡ take place pattern ++ (sign ∷ drop (place + 1) pattern)
split_at_sign pattern place sign within e =
    sym (take-append-drop place pattern) ∙ ap (λ xs. take place pattern ++ xs) (drop_more pattern place 0 within ∙ ap (λ x. x ∷ drop (place + 1) pattern) e)

pub is_percent : (pattern : List ℕ) (place : ℕ) → IsFirstSign pattern place → (get_or pattern place 0 ≡ 95 → ⊥) → get_or pattern place 0 ≡ 37
is_percent pattern place sign other =
    ⊎_elim (λ is. eqb-true (get_or pattern place 0) 37 is) (λ is. absurd (other (eqb-true (get_or pattern place 0) 95 is))) (or_cases (get_or pattern place 0 == 37) (get_or pattern place 0 == 95) sign.is)

pub behind_percent_utf8 : (pattern : List ℕ) (place : ℕ) → IsUtf8 pattern → IsFirstSign pattern place → get_or pattern place 0 ≡ 37 → IsUtf8 (take place pattern) × IsUtf8 (drop (place + 1) pattern) × IsCharBoundary pattern (place + 1)
behind_percent_utf8 pattern place utf8 sign e =
    let within = sign.within in
    let after : IsCharBoundary pattern (place + 1) = IsCharBoundary-after_ascii pattern place utf8 within (omega arith) in
    (IsUtf8-take pattern place utf8 (IsCharBoundary-before_ascii pattern place within (omega arith)), IsUtf8-drop pattern (place + 1) utf8 after, after)
