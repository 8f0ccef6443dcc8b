-- Letters of ASCII in either case, in bytes and in characters: a byte of ASCII stands in UTF-8 only for itself.
use lib.Utf8.{scalar, scalars, encode, encodes, next, low_scalar}
use lib.Dec.{ltb}
use Rattle.std.specs.Char.{to_ascii_lowercase}
use Rattle.std.specs.List.{list_any}
use Rattle.std.specs.Str.{chars, IsUtf8, IsCharBoundary}
use Rattle.std.proofs.Common.{◌≡◌, ℕ, ◌+◌, ◌-◌, ◌/◌, ◌<◌, ◌≤◌, ◌==◌, true, false, List, [], ◌∷◌, ◌++◌, map, length, take, drop, get_or, refl, sym, ap, ap₂, subst, ◌∙◌, arith, ⊎_elim, inl, inr}
use Rattle.std.proofs.lemmas.Bool.{cases_lt, le-ltb, and_parts, and_from, or_parts, or_from, ne_eqb, cases_Bool}
use Rattle.std.proofs.lemmas.List.{map-append, length-map, length-append, get_or-map, take_at, drop_at, append_assoc}
use Rattle.std.proofs.lemmas.List.Folds.{list_any-append}
use Rattle.std.proofs.lemmas.Str.{encode_ascii, encodes-append, encodes-chars, encodes_same, chars-append, IsUtf8-append, IsUtf8-take, IsUtf8-drop, IsUtf8-between, IsCharBoundary-at_seam}
use Rattle.std.proofs.lemmas.Str.Ascii.{lowercase_ascii, lowercase_is, lowercase-lowercase}
use Rattle.text_functions.specs.Runs.{IsSame, IsPlain, is_sign}
use Rattle.text_functions.proofs.Cutting.{occurrence_utf8}

abbrev pub small : List ℕ → List ℕ
small xs = map to_ascii_lowercase xs

high_stays : (c : ℕ) → 128 ≤ c → to_ascii_lowercase c ≡ c
high_stays c high = (lowercase_is c).2 (omega arith)

-- a byte above ASCII is the same as itself alone
high_same : (a b : ℕ) → to_ascii_lowercase a ≡ to_ascii_lowercase b → 128 ≤ a → a ≡ b
high_same a b same high =
    let ha : to_ascii_lowercase a ≡ a = high_stays a high in
    ⊎_elim (λ lt. let hb : to_ascii_lowercase b < 128 = lowercase_ascii b lt in absurd (omega arith)) (λ ge. let hb : to_ascii_lowercase b ≡ b = high_stays b ge in omega arith) (cases_lt b 128)

high_bytes : (c : ℕ) → 128 ≤ c → small (encode c) ≡ encode c
unfolding encode
high_bytes c high =
    let n : (b : ℕ) → to_ascii_lowercase (next b) ≡ next b = λ b. high_stays (next b) (omega arith) in
    let e : ltb c 128 ≡ false = le-ltb c 128 high in
    rw e (elim (cases_Bool (ltb c 2048)) [
      | inl is ↦ rw is (ap₂ (λ a b. a ∷ b ∷ []) (high_stays (192 + c / 64) (omega arith)) (n c))
      | inr isnt ↦ rw isnt (elim (cases_Bool (ltb c 65536)) [
        | inl is ↦ rw is (λ i. high_stays (224 + c / 4096) (omega arith) i ∷ n (c / 64) i ∷ n c i ∷ [])
        | inr large ↦ rw large (λ i. high_stays (240 + c / 262144) (omega arith) i ∷ n (c / 4096) i ∷ n (c / 64) i ∷ n c i ∷ [])
      ])
    ])

small-encode : (c : ℕ) → small (encode c) ≡ encode (to_ascii_lowercase c)
small-encode c = ⊎_elim
    (λ lt. ap small (encode_ascii c lt) ∙ sym (encode_ascii (to_ascii_lowercase c) (lowercase_ascii c lt)))
    (λ ge. high_bytes c ge ∙ sym (ap encode (high_stays c ge)))
    (cases_lt c 128)

-- the small letters of a text are those of its characters
pub small-encodes : (cs : List ℕ) → small (encodes cs) ≡ encodes (small cs)
small-encodes [] = refl
small-encodes (c ∷ cs) = map-append to_ascii_lowercase (encode c) (encodes cs) ∙ ap₂ (λ xs ys. xs ++ ys) (small-encode c) (small-encodes cs)

small_scalar : (c : ℕ) → scalar c ≡ true → scalar (to_ascii_lowercase c) ≡ true
small_scalar c is = ⊎_elim
    (λ lt. let s : to_ascii_lowercase c < 128 = lowercase_ascii c lt in low_scalar (to_ascii_lowercase c) (omega arith))
    (λ ge. ap scalar (high_stays c ge) ∙ is)
    (cases_lt c 128)

small_scalars : (cs : List ℕ) → scalars cs ≡ true → scalars (small cs) ≡ true
small_scalars [] is = refl
small_scalars (c ∷ cs) is =
    let both = and_parts (scalar c) (scalars cs) is in
    and_from (scalar (to_ascii_lowercase c)) (scalars (small cs)) (small_scalar c both.0) (small_scalars cs both.1)

small_utf8 : (bs : List ℕ) → IsUtf8 bs → IsUtf8 (small bs)
small_utf8 bs u = (small u.0, (small_scalars u.0 u.1.0, sym (small-encodes u.0) ∙ ap small u.1.1))

small-small : (xs : List ℕ) → small (small xs) ≡ small xs
small-small [] = refl
small-small (x ∷ xs) = ap₂ (λ a more. a ∷ more) (lowercase-lowercase x) (small-small xs)

pub same_length : (xs ys : List ℕ) → IsSame xs ys → length xs ≡ length ys
same_length xs ys same = sym (length-map xs to_ascii_lowercase) ∙ (ap length same ∙ length-map ys to_ascii_lowercase)

pub same_at : (xs ys : List ℕ) (i : ℕ) → IsSame xs ys → i < length xs → to_ascii_lowercase (get_or xs i 0) ≡ to_ascii_lowercase (get_or ys i 0)
same_at xs ys i same within =
    let size = same_length xs ys same in
    sym (get_or-map to_ascii_lowercase xs i 0 0 within) ∙ (ap (λ zs. get_or zs i 0) same ∙ get_or-map to_ascii_lowercase ys i 0 0 (omega arith))

-- texts that are the same in either case may be cut at the same places
same_boundary : (xs ys : List ℕ) (i : ℕ) → IsSame xs ys → IsCharBoundary ys i → IsCharBoundary xs i
same_boundary xs ys i same at =
    let size = same_length xs ys same in
    let within = at.0 in (
      omega arith,
      λ lt big.
          let e : get_or xs i 0 ≡ get_or ys i 0 = high_same (get_or xs i 0) (get_or ys i 0) (same_at xs ys i same lt) big in
          let start : 192 ≤ get_or ys i 0 = at.1 (omega arith) (omega arith) in
          omega arith,
    )

pub record IsParted (text before found behind : List ℕ) : Type 0 where
  pub before_utf8 : IsUtf8 before
  pub found_utf8 : IsUtf8 found
  pub behind_utf8 : IsUtf8 behind
  pub cut : IsCharBoundary text (length before + length found)

-- Where a run stands in a text by its bytes, characters are parted from characters.
pub run_parts : (text run before found behind : List ℕ) → IsUtf8 text → IsUtf8 run → 0 < length run → text ≡ before ++ (found ++ behind) → IsSame found run → IsParted text before found behind
run_parts text run before found behind utf8 run-utf8 some whole same =
    let low : small text ≡ small before ++ (small run ++ small behind) =
    ap small whole ∙ (map-append to_ascii_lowercase before (found ++ behind) ∙ ap (λ xs. small before ++ xs) (map-append to_ascii_lowercase found behind ∙ ap (λ xs. xs ++ small behind) same)) in
    let small-run : IsUtf8 (small run) = small_utf8 run run-utf8 in
    let run-size : length (small run) ≡ length run = length-map run to_ascii_lowercase in
    let sides = occurrence_utf8 (small text) (small run) (small before) (small behind) (small_utf8 text utf8) small-run (omega arith) low in
    let first : IsCharBoundary (small text) (length (small before)) = IsCharBoundary-at_seam (small text) (small before) (small run ++ small behind) low (IsUtf8-append (small run) (small behind) small-run sides.1) in
    let second : IsCharBoundary (small text) (length (small before ++ small run)) =
    IsCharBoundary-at_seam (small text) (small before ++ small run) (small behind) (low ∙ sym (append_assoc (small before) (small run) (small behind))) sides.1 in
    let before-size : length (small before) ≡ length before = length-map before to_ascii_lowercase in
    let found-size : length found ≡ length run = same_length found run same in
    let both-size : length (small before ++ small run) ≡ length before + length found = length-append (small before) (small run) ∙ omega arith in
    let at : IsCharBoundary text (length before) = same_boundary text (small text) (length before) (sym (small-small text)) (subst (IsCharBoundary (small text)) before-size first) in
    let end : IsCharBoundary text (length before + length found) = same_boundary text (small text) (length before + length found) (sym (small-small text)) (subst (IsCharBoundary (small text)) both-size second) in
    let front : take (length before) text ≡ before = ap (take (length before)) whole ∙ take_at before (found ++ behind) (length before) refl in
    let rest : drop (length before) text ≡ found ++ behind = ap (drop (length before)) whole ∙ drop_at before (found ++ behind) (length before) refl in
    let room : length before + length found - length before ≡ length found = omega arith in
    let middle : take (length before + length found - length before) (drop (length before) text) ≡ found = ap₂ (λ n xs. take n xs) room rest ∙ take_at found behind (length found) refl in
    let last : drop (length before + length found) text ≡ behind =
    ap (drop (length before + length found)) (whole ∙ sym (append_assoc before found behind)) ∙ drop_at (before ++ found) behind (length before + length found) (length-append before found) in
    record {
      before_utf8 = subst IsUtf8 front (IsUtf8-take text (length before) utf8 at);
      found_utf8 = subst IsUtf8 middle (IsUtf8-between text (length before) (length before + length found) utf8 (omega arith) at end);
      behind_utf8 = subst IsUtf8 last (IsUtf8-drop text (length before + length found) utf8 end);
      cut = end;
    }

-- The law that joins the two: a run stands in the characters where it stands in the bytes,
pub run_characters : (text run before found behind : List ℕ) → IsUtf8 run → IsParted text before found behind → text ≡ before ++ (found ++ behind) → IsSame found run
    → (chars text ≡ chars before ++ (chars found ++ chars behind)) × IsSame (chars found) (chars run)
run_characters text run before found behind run-utf8 parts whole same = (
  ap chars whole ∙ (chars-append before (found ++ behind) parts.before_utf8 ∙ ap (λ cs. chars before ++ cs) (chars-append found behind parts.found_utf8)),
  encodes_same (small (chars found)) (small (chars run))
      (sym (small-encodes (chars found)) ∙ (ap small (encodes-chars found parts.found_utf8) ∙ (same ∙ (sym (ap small (encodes-chars run run-utf8)) ∙ small-encodes (chars run))))),
)

-- and the other way round.
pub run_bytes : (text run : List ℕ) (before found behind : List ℕ) → IsUtf8 text → IsUtf8 run → chars text ≡ before ++ (found ++ behind) → IsSame found (chars run)
    → (text ≡ encodes before ++ (encodes found ++ encodes behind)) × IsSame (encodes found) run
run_bytes text run before found behind utf8 run-utf8 whole same = (
  sym (encodes-chars text utf8) ∙ (ap encodes whole ∙ (encodes-append before (found ++ behind) ∙ ap (λ xs. encodes before ++ xs) (encodes-append found behind))),
  small-encodes found ∙ (ap encodes same ∙ (sym (small-encodes (chars run)) ∙ ap small (encodes-chars run run-utf8))),
)

sign_high : (c : ℕ) → 128 ≤ c → is_sign c ≡ false
sign_high c high = or_from (c == 37) (c == 95) (ne_eqb c 37 (λ e. omega arith)) (ne_eqb c 95 (λ e. omega arith))

sign_first : (c : ℕ) → list_any is_sign (encode c) ≡ false → is_sign c ≡ false
sign_first c plain = ⊎_elim
    (λ lt. (or_parts (is_sign c) false (sym (ap (list_any is_sign) (encode_ascii c lt)) ∙ plain)).0)
    (λ ge. sign_high c ge)
    (cases_lt c 128)

plain_encodes : (cs : List ℕ) → IsPlain (encodes cs) → IsPlain cs
plain_encodes [] plain = refl
plain_encodes (c ∷ cs) plain =
    let both = or_parts (list_any is_sign (encode c)) (list_any is_sign (encodes cs)) (sym (list_any-append is_sign (encode c) (encodes cs)) ∙ plain) in
    or_from (is_sign c) (list_any is_sign cs) (sign_first c both.0) (plain_encodes cs both.1)

-- bytes without signs are characters without signs
pub plain_characters : (run : List ℕ) → IsUtf8 run → IsPlain run → IsPlain (chars run)
plain_characters run utf8 plain = plain_encodes (chars run) (subst IsPlain (sym (encodes-chars run utf8)) plain)
