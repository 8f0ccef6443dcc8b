-- What stands before an occurrence, occurrence by occurrence.
use Rattle.std.proofs.Common.{◌≡◌, ℕ, zero, suc, ◌+◌, ◌-◌, ◌<◌, ◌≤◌, ◌==◌, false, pos, Some, List, [], ◌∷◌, ◌++◌, length, take, drop, reverse, refl, sym, ap, subst, ◌∙◌, arith}
use Rattle.std.proofs.lemmas.List.{append_assoc, length-append, take_at, drop_at, reverse-append, length-reverse, reverse-reverse, take_all}
use Rattle.std.specs.Option.{option_map}
use Rattle.std.proofs.lemmas.Bool.{false_from_ne_true, eqb-true}
use Rattle.text_functions.specs.Tokens.{prefix, suffix}
use Rattle.std.specs.Str.{IsUtf8, IsCharBoundary}
use Rattle.std.proofs.lemmas.Str.{IsCharBoundary-at_seam, IsCharBoundary-from_take, IsUtf8-append}
use Rattle.text_functions.proofs.Cutting.{mirrored, mirrored_lacks}
use Rattle.text_functions.specs.Pieces.{pieces, joined, Lacks, IsCutAtFirst, IsCutAtLast}
use Rattle.text_functions.proofs.PieceLemmas.{pieces-cut, pieces-lacks, pieces-some, joined-more, joined-one}

-- what stands before the occurrence of a number
abbrev pub before : List ℕ → List ℕ → ℕ → List ℕ
before part text index = joined part (take (index + 1) (pieces part text))

-- the rest follows what was passed, and the answer is that followed by the rest's
pub record IsBehind (part text : List ℕ) (index : ℕ) (rest : List ℕ) (left : ℕ) : Type 0 where
  pub passed : List ℕ
  pub whole : text ≡ passed ++ rest
  pub answer : before part text index ≡ passed ++ before part rest left

pub behind_start : (part text : List ℕ) (index : ℕ) → IsBehind part text index text index
behind_start part text index = record { passed = []; whole = refl; answer = refl }

take_one : (x : List ℕ) (xs : List (List ℕ)) (n : ℕ) → n ≡ 0 → take (n + 1) (x ∷ xs) ≡ x ∷ []
take_one x xs n none = ap (λ (m : ℕ). take (m + 1) (x ∷ xs)) none

take_next : (x : List ℕ) (xs : List (List ℕ)) (n : ℕ) → 0 < n → take (n + 1) (x ∷ xs) ≡ x ∷ take (n - 1 + 1) xs
take_next x xs zero some = absurd (omega arith)
take_next x xs (suc n) some =
    let a : suc n + 1 ≡ suc (n + 1) = omega arith in
    let b : n + 1 ≡ suc n - 1 + 1 = omega arith in
    ap (λ (m : ℕ). take m (x ∷ xs)) a ∙ ap (λ (m : ℕ). x ∷ take m xs) b

take_some : (xs : List (List ℕ)) (n : ℕ) → 0 < length xs → 0 < n → 0 < length (take n xs)
take_some [] n some more = absurd (omega arith)
take_some (x ∷ xs) zero some more = absurd (omega arith)
take_some (x ∷ xs) (suc n) some more = omega arith

before_first : (part text first behind : List ℕ) (left : ℕ) → 0 < length part → IsCutAtFirst part text first behind → left ≡ 0 → before part text left ≡ first
before_first part text first behind left some cut none =
    ap (λ (ps : List (List ℕ)). joined part (take (left + 1) ps)) (pieces-cut part text first behind some cut)
    ∙ (ap (joined part) (take_one first (pieces part behind) left none) ∙ joined-one part first)

before_next : (part text first behind : List ℕ) (left : ℕ) → 0 < length part → IsCutAtFirst part text first behind → 0 < left → before part text left ≡ first ++ (part ++ before part behind (left - 1))
before_next part text first behind left some cut more =
    ap (λ (ps : List (List ℕ)). joined part (take (left + 1) ps)) (pieces-cut part text first behind some cut)
    ∙ (ap (joined part) (take_next first (pieces part behind) left more)
    ∙ joined-more part first (take (left - 1 + 1) (pieces part behind)) (take_some (pieces part behind) (left - 1 + 1) (pieces-some part behind 0) (omega arith)))

before_all : (part text : List ℕ) (left : ℕ) → Lacks part text → before part text left ≡ text
before_all part text left none =
    ap (λ (ps : List (List ℕ)). joined part (take (left + 1) ps)) (pieces-lacks part text none)
    ∙ (ap (joined part) (take_all (left + 1) (text ∷ []) (omega arith)) ∙ joined-one part text)

-- one occurrence on
pub behind_next : (part text : List ℕ) (index : ℕ) (rest : List ℕ) (left : ℕ) (first behind : List ℕ) → IsBehind part text index rest left → 0 < length part → IsCutAtFirst part rest first behind → 0 < left → IsBehind part text index behind (left - 1)
behind_next part text index rest left first behind is some cut more = record {
  passed = is.passed ++ (first ++ part);
  whole = is.whole ∙ (ap (λ (xs : List ℕ). is.passed ++ xs) (cut.whole ∙ sym (append_assoc first part behind)) ∙ sym (append_assoc is.passed (first ++ part) behind));
  answer = is.answer ∙ (ap (λ (xs : List ℕ). is.passed ++ xs) (before_next part rest first behind left some cut more ∙ sym (append_assoc first part (before part behind (left - 1)))) ∙ sym (append_assoc is.passed (first ++ part) (before part behind (left - 1))));
}

-- at the occurrence
pub behind_here : (part text : List ℕ) (index : ℕ) (rest : List ℕ) (left : ℕ) (first behind : List ℕ) → (is : IsBehind part text index rest left) → 0 < length part → IsCutAtFirst part rest first behind → left ≡ 0 → (before part text index ≡ is.passed ++ first) × (text ≡ (is.passed ++ first) ++ (part ++ behind))
behind_here part text index rest left first behind is some cut none = (
  is.answer ∙ ap (λ (xs : List ℕ). is.passed ++ xs) (before_first part rest first behind left some cut none),
  is.whole ∙ (ap (λ (xs : List ℕ). is.passed ++ xs) cut.whole ∙ sym (append_assoc is.passed first (part ++ behind))),
)

-- where there is none
pub behind_none : (part text : List ℕ) (index : ℕ) (rest : List ℕ) (left : ℕ) → IsBehind part text index rest left → Lacks part rest → before part text index ≡ text
behind_none part text index rest left is none =
    is.answer ∙ (ap (λ (xs : List ℕ). is.passed ++ xs) (before_all part rest left none) ∙ sym is.whole)

-- the text up to the occurrence
pub prefix_cut : (part text : List ℕ) (index : ℕ) (rest : List ℕ) (left : ℕ) (first behind : List ℕ) (size : ℕ) → IsBehind part text index rest left → 0 < length part → IsCutAtFirst part rest first behind → left ≡ 0
    → IsUtf8 part → IsUtf8 behind → size ≡ length text - length rest + length first → IsCharBoundary text size × (take size text ≡ before part text index)
prefix_cut part text index rest left first behind size is some cut none part-utf8 utf8 e =
    let here = behind_here part text index rest left first behind is some cut none in
    let whole : length text ≡ length is.passed + length rest = ap length is.whole ∙ length-append is.passed rest in
    let front : length (is.passed ++ first) ≡ length is.passed + length first = length-append is.passed first in
    let same : length (is.passed ++ first) ≡ size = omega arith in (
      subst (IsCharBoundary text) same (IsCharBoundary-at_seam text (is.passed ++ first) (part ++ behind) here.1 (IsUtf8-append part behind part-utf8 utf8)),
      ap (take size) here.1 ∙ (take_at (is.passed ++ first) (part ++ behind) size same ∙ sym here.0),
    )

-- the rest is a part of the text
pub rest_fits : (part text : List ℕ) (index : ℕ) (rest : List ℕ) (left : ℕ) → IsBehind part text index rest left → length rest ≤ length text
rest_fits part text index rest left is =
    let whole : length text ≡ length is.passed + length rest = ap length is.whole ∙ length-append is.passed rest in omega arith

-- the text behind the occurrence, where it was read backwards
pub suffix_cut : (part text : List ℕ) (index : ℕ) (rest : List ℕ) (left : ℕ) (first behind : List ℕ) (place : ℕ) → IsBehind (reverse part) (reverse text) index (reverse rest) left → 0 < length part → IsCutAtLast part rest first behind → left ≡ 0
    → IsUtf8 text → IsUtf8 part → IsUtf8 first → place ≡ length rest - length behind → IsCharBoundary text place × (drop place text ≡ reverse (before (reverse part) (reverse text) index))
suffix_cut part text index rest left first behind place is some cut none utf8 part-utf8 first-utf8 e =
    let turned : length (reverse part) ≡ length part = length-reverse part in
    let here = behind_here (reverse part) (reverse text) index (reverse rest) left (reverse behind) (reverse first) is (omega arith) (mirrored part rest first behind cut) none in
    let tail : List ℕ = reverse (is.passed ++ reverse behind) in
    let whole : text ≡ (first ++ part) ++ tail =
    sym (reverse-reverse text) ∙ (ap reverse here.1 ∙ (reverse-append (is.passed ++ reverse behind) (reverse part ++ reverse first)
    ∙ ap (λ (xs : List ℕ). xs ++ tail) (reverse-append (reverse part) (reverse first) ∙ (ap (λ (xs : List ℕ). xs ++ reverse (reverse part)) (reverse-reverse first) ∙ ap (λ (xs : List ℕ). first ++ xs) (reverse-reverse part))))) in
    let sizes : length rest ≡ length first + (length part + length behind) = ap length cut.whole ∙ (length-append first (part ++ behind) ∙ ap (λ (n : ℕ). length first + n) (length-append part behind)) in
    let front : length (first ++ part) ≡ length first + length part = length-append first part in
    let same : length (first ++ part) ≡ place = omega arith in
    let all : length text ≡ length (first ++ part) + length tail = ap length whole ∙ length-append (first ++ part) tail in
    let taken : take place text ≡ first ++ part = ap (take place) whole ∙ take_at (first ++ part) tail place same in (
      IsCharBoundary-from_take text place utf8 (omega arith) (subst IsUtf8 (sym taken) (IsUtf8-append first part first-utf8 part-utf8)),
      ap (drop place) whole ∙ (drop_at (first ++ part) tail place same ∙ ap reverse (sym here.0)),
    )

-- read backwards
suffix_is : (part text : List ℕ) (n : ℕ) → 0 < length part → suffix text (pos n) part ≡ Some (reverse (before (reverse part) (reverse text) n))
suffix_is part text n some =
    let turned : length (reverse part) ≡ length part = length-reverse part in
    let other : (length (reverse part) == 0) ≡ false = false_from_ne_true _ (λ is. let h : length (reverse part) ≡ 0 = eqb-true (length (reverse part)) 0 is in omega arith) in
    let whole : prefix (reverse text) (pos n) (reverse part) ≡ Some (before (reverse part) (reverse text) n) = (rw other refl) in
    ap (option_map reverse) whole

-- what stands behind the last occurrence
pub suffix_last : (part text first behind : List ℕ) → 0 < length part → IsCutAtLast part text first behind → suffix text (pos 0) part ≡ Some behind
suffix_last part text first behind some cut =
    let turned : length (reverse part) ≡ length part = length-reverse part in
    let at : before (reverse part) (reverse text) 0 ≡ reverse behind = before_first (reverse part) (reverse text) (reverse behind) (reverse first) 0 (omega arith) (mirrored part text first behind cut) refl in
    suffix_is part text 0 some ∙ ap Some (ap reverse at ∙ reverse-reverse behind)

-- and behind the occurrences before it
pub suffix_next : (part text first behind : List ℕ) (n : ℕ) → 0 < length part → IsCutAtLast part text first behind → suffix text (pos (n + 1)) part ≡ option_map (λ (s : List ℕ). s ++ (part ++ behind)) (suffix first (pos n) part)
suffix_next part text first behind n some cut =
    let turned : length (reverse part) ≡ length part = length-reverse part in
    let back : List ℕ = before (reverse part) (reverse first) n in
    let less : n + 1 - 1 ≡ n = omega arith in
    let at : before (reverse part) (reverse text) (n + 1) ≡ reverse behind ++ (reverse part ++ back) =
    before_next (reverse part) (reverse text) (reverse behind) (reverse first) (n + 1) (omega arith) (mirrored part text first behind cut) (omega arith)
    ∙ ap (λ (m : ℕ). reverse behind ++ (reverse part ++ before (reverse part) (reverse first) m)) less in
    let turn : reverse (reverse behind ++ (reverse part ++ back)) ≡ reverse back ++ (part ++ behind) =
    reverse-append (reverse behind) (reverse part ++ back)
    ∙ (ap (λ (xs : List ℕ). xs ++ reverse (reverse behind)) (reverse-append (reverse part) back ∙ ap (λ (xs : List ℕ). reverse back ++ xs) (reverse-reverse part))
    ∙ (append_assoc (reverse back) part (reverse (reverse behind)) ∙ ap (λ (xs : List ℕ). reverse back ++ (part ++ xs)) (reverse-reverse behind))) in
    suffix_is part text (n + 1) some ∙ (ap Some (ap reverse at ∙ turn) ∙ sym (ap (option_map (λ (s : List ℕ). s ++ (part ++ behind))) (suffix_is part first n some)))

pub suffix_whole : (part text : List ℕ) (n : ℕ) → 0 < length part → Lacks part text → suffix text (pos n) part ≡ Some text
suffix_whole part text n some none =
    suffix_is part text n some ∙ ap Some (ap reverse (before_all (reverse part) (reverse text) n (mirrored_lacks part text none)) ∙ reverse-reverse text)
