-- Likeness, a run of the pattern at a time.
use lib.Utf8.{encodes}
use Rattle.std.specs.Char.{to_ascii_lowercase}
use Rattle.std.specs.List.{list_any}
use Rattle.std.specs.Str.{chars, IsUtf8}
use Rattle.std.proofs.Common.{◌≡◌, ◌↔◌, ℕ, ◌+◌, ◌<◌, ◌≤◌, ◌==◌, true, false, List, [], ◌∷◌, ◌++◌, map, length, take, drop, refl, sym, ap, ap₂, subst, ◌∙◌, arith, ⊎_elim}
use Rattle.std.proofs.lemmas.Bool.{cases_lt, or_parts, or_cases, or_right, eqb-true, eq-eqb, false≢true}
use Rattle.std.proofs.lemmas.List.{append_assoc, append-nil, length-append, length-drop, take-append-drop, take-append-le, take_at, drop_at, drop-append-le}
use Rattle.std.proofs.lemmas.Str.{chars-append, chars-nil, chars-IsAscii, encodes-append, encodes-chars, IsUtf8-from_ascii, length-le-encodes}
use Rattle.std.proofs.lemmas.Str.Ascii.{IsAscii-nil, IsAscii-cons}
use Rattle.text_functions.specs.Likes.{Likes, stands_for}
use Rattle.text_functions.specs.Runs.{IsSame, IsPlain, is_sign, LacksRun, IsBehindFirst, EndsWithRun}
use Rattle.text_functions.proofs.CharacterLemmas.{no_characters}
use Rattle.text_functions.proofs.CaseLemmas.{same_length, run_parts, run_characters, run_bytes, plain_characters}
use Rattle.text_functions.proofs.LikeLemmas.{as_skips, from_skips, as_takes, from_takes, as_end, from_end, percent_start, percent_twice}

same_more : (p c : ℕ) (r found : List ℕ) → (p == 95) ≡ false → stands_for p c ≡ true → IsSame found r → IsSame (c ∷ found) (p ∷ r)
same_more p c r found other is same =
    let e : to_ascii_lowercase p ≡ to_ascii_lowercase c =
    ⊎_elim (λ blank. absurd (false≢true (sym other ∙ blank))) (λ h. eqb-true (to_ascii_lowercase p) (to_ascii_lowercase c) h) (or_cases (p == 95) (to_ascii_lowercase p == to_ascii_lowercase c) is) in
    ap₂ (λ x xs. x ∷ xs) (sym e) same

-- a run takes what is the same in either case
run_takes : (r q text : List ℕ) → IsPlain r → Likes (r ++ q) text → (found : List ℕ) × (rest : List ℕ) × (text ≡ found ++ rest) × IsSame found r × Likes q rest
run_takes [] q text plain h = ([], text, refl, refl, h)
run_takes (p ∷ r) q text plain h =
    let both = or_parts (is_sign p) (list_any is_sign r) plain in
    let other = or_parts (p == 37) (p == 95) both.0 in
    let t = as_takes p (r ++ q) text other.0 h in
    let more = run_takes r q t.1 both.1 t.4 in
    (t.0 ∷ more.0, more.1, t.2 ∙ ap (λ (xs : List ℕ). t.0 ∷ xs) more.2, same_more p t.0 r more.0 other.1 t.3 more.3, more.4)

run_given : (r q found rest : List ℕ) → IsPlain r → IsSame found r → Likes q rest → Likes (r ++ q) (found ++ rest)
run_given [] q [] rest plain same h = h
run_given [] q (f ∷ fs) rest plain same h = absurd (let e : map to_ascii_lowercase (f ∷ fs) ≡ [] = same in cc)
run_given (p ∷ r) q [] rest plain same h = absurd (let e : [] ≡ map to_ascii_lowercase (p ∷ r) = same in cc)
run_given (p ∷ r) q (f ∷ fs) rest plain same h =
    let both = or_parts (is_sign p) (list_any is_sign r) plain in
    let other = or_parts (p == 37) (p == 95) both.0 in
    let e : to_ascii_lowercase f ∷ map to_ascii_lowercase fs ≡ to_ascii_lowercase p ∷ map to_ascii_lowercase r = same in
    let head : to_ascii_lowercase p ≡ to_ascii_lowercase f = cc in
    let tail : map to_ascii_lowercase fs ≡ map to_ascii_lowercase r = cc in
    from_takes p (r ++ q) (f ∷ (fs ++ rest)) other.0
    (f, fs ++ rest, refl, or_right (p == 95) (to_ascii_lowercase p == to_ascii_lowercase f) (eq-eqb (to_ascii_lowercase p) (to_ascii_lowercase f) head), run_given r q fs rest both.1 tail h)

-- behind a `%` it may stand anywhere
percent_run : (r q text : List ℕ) → IsPlain r → Likes (37 ∷ (r ++ q)) text → (before : List ℕ) × (found : List ℕ) × (rest : List ℕ) × (text ≡ before ++ (found ++ rest)) × IsSame found r × Likes q rest
percent_run r q text plain h =
    let s = as_skips (r ++ q) text h in
    let t = run_takes r q s.1 plain s.3 in
    (s.0, t.0, t.1, s.2 ∙ ap (λ (xs : List ℕ). s.0 ++ xs) t.2, t.3, t.4)

percent_given : (r q before found rest : List ℕ) → IsPlain r → IsSame found r → Likes q rest → Likes (37 ∷ (r ++ q)) (before ++ (found ++ rest))
percent_given r q before found rest plain same h = from_skips (r ++ q) (before ++ (found ++ rest)) (before, found ++ rest, refl, run_given r q found rest plain same h)

-- what a `%` stands for may be more
percent_from : (q skipped text : List ℕ) → Likes (37 ∷ q) text → Likes (37 ∷ q) (skipped ++ text)
percent_from q skipped text h =
    let s = as_skips q text h in
    from_skips q (skipped ++ text) (skipped ++ s.0, s.1, ap (λ (xs : List ℕ). skipped ++ xs) s.2 ∙ sym (append_assoc skipped s.0 s.1), s.3)

-- the characters of a pattern with a `%` behind its first run
pub pattern_parts : (pattern run behind : List ℕ) → IsUtf8 run → pattern ≡ run ++ (37 ∷ behind) → chars pattern ≡ chars run ++ (37 ∷ chars behind)
pattern_parts pattern run behind utf8 e =
    let ascii = IsAscii-cons 37 [] (omega arith) IsAscii-nil in
    ap chars e ∙ (chars-append run (37 ∷ behind) utf8 ∙ ap (λ (cs : List ℕ). chars run ++ cs) (chars-append (37 ∷ []) behind (IsUtf8-from_ascii (37 ∷ []) ascii) ∙ ap (λ (cs : List ℕ). cs ++ chars behind) (chars-IsAscii (37 ∷ []) ascii)))

-- of two cuts of a list the earlier one leaves more
leaves_more : (x y z w : List ℕ) → x ++ y ≡ z ++ w → length x ≤ length z → y ≡ drop (length x) z ++ w
leaves_more x y z w e le = sym (drop_at x y (length x) refl) ∙ (ap (drop (length x)) e ∙ drop-append-le (length x) z w le)

-- fewer characters stand in fewer bytes
fewer_characters : (before : List ℕ) (b rest other : List ℕ) → IsUtf8 before → chars before ++ rest ≡ b ++ other → length before ≤ length (encodes b) → length (chars before) ≤ length b
fewer_characters before b rest other utf8 e le = ⊎_elim
    (λ lt.
    let d : List ℕ = drop (length b) (chars before) in
    let front : take (length b) (chars before) ≡ b = sym (take-append-le (length b) (chars before) rest (omega arith)) ∙ (ap (take (length b)) e ∙ take_at b other (length b) refl) in
    let whole : chars before ≡ b ++ d = sym (take-append-drop (length b) (chars before)) ∙ ap (λ (xs : List ℕ). xs ++ d) front in
    let bytes : before ≡ encodes b ++ encodes d = sym (encodes-chars before utf8) ∙ (ap encodes whole ∙ encodes-append b d) in
    let size : length before ≡ length (encodes b) + length (encodes d) = ap length bytes ∙ length-append (encodes b) (encodes d) in
    let some : length d ≤ length (encodes d) = length-le-encodes d in
    let left = length-drop (length b) (chars before) in
    absurd (omega arith))
    (λ ge. ge)
    (cases_lt (length b) (length (chars before)))

-- the first place at which the run stands is enough
pub behind_first_run : (text run behind q : List ℕ) → IsUtf8 text → IsUtf8 run → 0 < length run → IsPlain run → IsBehindFirst run text behind → Likes (37 ∷ (chars run ++ (37 ∷ q))) (chars text) ↔ Likes (37 ∷ q) (chars behind)
behind_first_run text run behind q utf8 run-utf8 some plain first =
    let parts = run_parts text run first.before first.found behind utf8 run-utf8 some first.whole first.same in
    let cs = run_characters text run first.before first.found behind run-utf8 parts first.whole first.same in
    let signs : IsPlain (chars run) = plain_characters run run-utf8 plain in (
      λ h.
          let p = percent_run (chars run) (37 ∷ q) (chars text) signs h in
          let bytes = run_bytes text run p.0 p.1 p.2 utf8 run-utf8 p.3 p.4 in
          let le : length first.before ≤ length (encodes p.0) = first.first (encodes p.0) (encodes p.1) (encodes p.2) bytes.0 bytes.1 in
          let same : chars first.before ++ (chars first.found ++ chars behind) ≡ p.0 ++ (p.1 ++ p.2) = sym cs.0 ∙ p.3 in
          let few : length (chars first.before) ≤ length p.0 = fewer_characters first.before p.0 (chars first.found ++ chars behind) (p.1 ++ p.2) parts.before_utf8 same le in
          let found-size : length (chars first.found) ≡ length (chars run) = same_length (chars first.found) (chars run) cs.1 in
          let other-size : length p.1 ≡ length (chars run) = same_length p.1 (chars run) p.4 in
          let x : List ℕ = chars first.before ++ chars first.found in
          let z : List ℕ = p.0 ++ p.1 in
          let sizes : length x ≤ length z = omega (arith, length-append (chars first.before) (chars first.found), length-append p.0 p.1) in
          let regrouped : x ++ chars behind ≡ z ++ p.2 = append_assoc (chars first.before) (chars first.found) (chars behind) ∙ (same ∙ sym (append_assoc p.0 p.1 p.2)) in
          subst (Likes (37 ∷ q)) (sym (leaves_more x (chars behind) z p.2 regrouped sizes)) (percent_from q (drop (length x) z) p.2 p.5),
      λ h. subst (Likes (37 ∷ (chars run ++ (37 ∷ q)))) (sym cs.0) (percent_given (chars run) (37 ∷ q) (chars first.before) (chars first.found) (chars behind) signs cs.1 h),
    )

-- no place
pub lacks_first_run : (text run q : List ℕ) → IsUtf8 text → IsUtf8 run → IsPlain run → LacksRun run text → Likes (37 ∷ (chars run ++ q)) (chars text) → ⊥
lacks_first_run text run q utf8 run-utf8 plain none h =
    let p = percent_run (chars run) q (chars text) (plain_characters run run-utf8 plain) h in
    let bytes = run_bytes text run p.0 p.1 p.2 utf8 run-utf8 p.3 p.4 in
    none (encodes p.0) (encodes p.1) (encodes p.2) bytes.0 bytes.1

-- the last run stands at the end
ends_like : (text run : List ℕ) → IsUtf8 text → IsUtf8 run → IsPlain run → EndsWithRun run text → Likes (37 ∷ chars run) (chars text)
ends_like text [] utf8 run-utf8 plain ends =
    from_skips (chars []) (chars text) (chars text, [], sym (append-nil (chars text)), subst (λ (ps : List ℕ). Likes ps []) (sym chars-nil) (from_end [] refl))
ends_like text (r ∷ rs) utf8 run-utf8 plain ends =
    let run : List ℕ = r ∷ rs in
    let whole : text ≡ ends.0 ++ (ends.1 ++ []) = ends.2 ∙ ap (λ (xs : List ℕ). ends.0 ++ xs) (sym (append-nil ends.1)) in
    let parts = run_parts text run ends.0 ends.1 [] utf8 run-utf8 (omega arith) whole ends.3 in
    let cs = run_characters text run ends.0 ends.1 [] run-utf8 parts whole ends.3 in
    subst (λ (ps : List ℕ). Likes (37 ∷ ps) (chars text)) (append-nil (chars run))
    (subst (Likes (37 ∷ (chars run ++ []))) (sym cs.0) (percent_given (chars run) [] (chars ends.0) (chars ends.1) (chars []) (plain_characters run run-utf8 plain) cs.1 (from_end (chars []) chars-nil)))

pub last_run : (text run : List ℕ) → IsUtf8 text → IsUtf8 run → IsPlain run → EndsWithRun run text ↔ Likes (37 ∷ chars run) (chars text)
last_run text run utf8 run-utf8 plain = (
  λ ends. ends_like text run utf8 run-utf8 plain ends,
  λ h.
      let p = percent_run (chars run) [] (chars text) (plain_characters run run-utf8 plain) (subst (λ (ps : List ℕ). Likes (37 ∷ ps) (chars text)) (sym (append-nil (chars run))) h) in
      let bytes = run_bytes text run p.0 p.1 p.2 utf8 run-utf8 p.3 p.4 in
      let none : encodes p.2 ≡ [] = ap encodes (as_end p.2 p.5) in
      (encodes p.0, encodes p.1, bytes.0 ∙ ap (λ (xs : List ℕ). encodes p.0 ++ xs) (ap (λ (xs : List ℕ). encodes p.1 ++ xs) none ∙ append-nil (encodes p.1)), bytes.1),
)

-- an empty run before a `%`
pub empty_run : (run q text : List ℕ) → length run ≡ 0 → Likes (37 ∷ (chars run ++ (37 ∷ q))) text ↔ Likes (37 ∷ q) text
empty_run run q text none =
    let e : chars run ++ (37 ∷ q) ≡ 37 ∷ q = ap (λ (cs : List ℕ). cs ++ (37 ∷ q)) (no_characters run none) in (
      λ h. percent_twice q text (subst (λ (ps : List ℕ). Likes (37 ∷ ps) text) e h),
      λ h. percent_start (chars run ++ (37 ∷ q)) text (subst (λ (ps : List ℕ). Likes ps text) (sym e) h),
    )

pub shorter_behind : (text run behind : List ℕ) → IsBehindFirst run text behind → length behind ≤ length text
shorter_behind text run behind first =
    let size = ap length first.whole ∙ (length-append first.before (first.found ++ behind) ∙ ap (λ (n : ℕ). length first.before + n) (length-append first.found behind)) in
    omega arith

pub shorter_pattern : (pattern run behind : List ℕ) → pattern ≡ run ++ (37 ∷ behind) → length behind < length pattern
shorter_pattern pattern run behind e =
    let size = ap length e ∙ length-append run (37 ∷ behind) in
    omega arith

pub behind_utf8 : (text run behind : List ℕ) → IsUtf8 text → IsUtf8 run → 0 < length run → IsBehindFirst run text behind → IsUtf8 behind
behind_utf8 text run behind utf8 run-utf8 some first = (run_parts text run first.before first.found behind utf8 run-utf8 some first.whole first.same).behind_utf8
