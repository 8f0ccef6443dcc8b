-- What std says of a text that is split at a part, in the words of this crate.
use Rattle.std.specs.Str.Pattern.{FindsText, RFindsText, HasTextAt, SplitsAroundMatch}
use Rattle.std.specs.Str.{chars, IsUtf8, IsCharBoundary}
use Rattle.std.specs.Option.{IfSome}
use Rattle.std.proofs.lemmas.Str.{IsUtf8-take, IsUtf8-drop, IsCharBoundary-start, IsCharBoundary-from_take, chars-append}
use denote.Ref.{Bor}
use Rattle.std.proofs.Common.{◌≡◌, ℕ, ◌+◌, ◌<◌, ◌≤◌, List, [], ◌∷◌, ◌++◌, length, take, drop, get_or, reverse, Option, Some, None, MatchOption, refl, sym, ap, subst, ◌∙◌, arith, ⊎_elim}
use Rattle.std.proofs.lemmas.List.{append_assoc, take-append-drop, drop_at, take_at, get_or_at, length-append, reverse-append, reverse-reverse, length-reverse}
use Rattle.std.proofs.lemmas.Bool.{cases_lt}
use Rattle.text_functions.specs.Pieces.{Lacks, IsCutAtFirst, IsCutAtLast}

-- where a part stands by lists, it stands by place
at_place : (part text front rest : List ℕ) → text ≡ front ++ (part ++ rest) → drop (length front) text ≡ part ++ rest
at_place part text front rest e = ap (drop (length front)) e ∙ drop_at front (part ++ rest) (length front) refl

place_fits : (part text front rest : List ℕ) → text ≡ front ++ (part ++ rest) → length text ≡ length front + (length part + length rest)
place_fits part text front rest e = ap length e ∙ (length-append front (part ++ rest) ∙ ap (λ (n : ℕ). length front + n) (length-append part rest))

found_whole : (part text : List ℕ) (i j : ℕ) → HasTextAt part text i j → text ≡ take i text ++ (part ++ drop j text)
found_whole part text i j at = sym (take-append-drop i text) ∙ ap (λ (xs : List ℕ). take i text ++ xs) at.split

pub cut_first : (part text : List ℕ) (r : Option (Bor (List ℕ) × Bor (List ℕ))) → MatchOption r (FindsText part text None) (λ x. SplitsAroundMatch (FindsText part) text x.0.now x.1.now) → MatchOption r (Lacks part text) (λ x. IsCutAtFirst part text x.0.now x.1.now)
cut_first part text None h = λ front rest e.
    let fits = place_fits part text front rest e in
    h (length front) (omega arith) rest (at_place part text front rest e)
cut_first part text (Some x) (i, j, found, before, behind, le, size, other) = record {
  whole = found_whole part text i j found.1 ∙ (ap (λ (xs : List ℕ). xs ++ (part ++ drop j text)) (sym before) ∙ ap (λ (xs : List ℕ). x.0.now ++ (part ++ xs)) (sym behind));
  first = λ front rest e.
      ⊎_elim (λ lt. absurd (found.0 (length front) lt rest (at_place part text front rest e))) (λ ge. let n : length x.0.now ≡ i = size in omega arith) (cases_lt (length front) i);
}

pub cut_last : (part text : List ℕ) (r : Option (Bor (List ℕ) × Bor (List ℕ))) → MatchOption r (RFindsText part text None) (λ x. SplitsAroundMatch (RFindsText part) text x.0.now x.1.now) → MatchOption r (Lacks part text) (λ x. IsCutAtLast part text x.0.now x.1.now)
cut_last part text None h = λ front rest e.
    let fits = place_fits part text front rest e in
    h (length front) (omega arith) rest (at_place part text front rest e)
cut_last part text (Some x) (i, j, found, before, behind, le, size, other) = record {
  whole = found_whole part text i j found.1 ∙ (ap (λ (xs : List ℕ). xs ++ (part ++ drop j text)) (sym before) ∙ ap (λ (xs : List ℕ). x.0.now ++ (part ++ xs)) (sym behind));
  last = λ front rest e.
      let fits = place_fits part text front rest e in
      let ends : j ≡ i + length part = found.1.ends in
      let sizes : length x.1.now + j ≡ length text = other in
      ⊎_elim (λ lt. absurd (found.0 (length front) lt (omega arith) rest (at_place part text front rest e))) (λ ge. omega arith) (cases_lt i (length front));
}

turned : (part text front rest : List ℕ) → reverse text ≡ front ++ (reverse part ++ rest) → text ≡ reverse rest ++ (part ++ reverse front)
turned part text front rest e =
    sym (reverse-reverse text) ∙ (ap reverse e ∙ (reverse-append front (reverse part ++ rest)
    ∙ (ap (λ (xs : List ℕ). xs ++ reverse front) (reverse-append (reverse part) rest ∙ ap (λ (xs : List ℕ). reverse rest ++ xs) (reverse-reverse part))
    ∙ append_assoc (reverse rest) part (reverse front))))

-- read backwards, the last occurrence is the first
pub mirrored : (part text before behind : List ℕ) → IsCutAtLast part text before behind → IsCutAtFirst (reverse part) (reverse text) (reverse behind) (reverse before)
mirrored part text before behind cut = record {
  whole = ap reverse cut.whole ∙ (reverse-append before (part ++ behind) ∙ (ap (λ (xs : List ℕ). xs ++ reverse before) (reverse-append part behind) ∙ append_assoc (reverse behind) (reverse part) (reverse before)));
  first = λ front rest e.
      let back : text ≡ reverse rest ++ (part ++ reverse front) = turned part text front rest e in
      let at = cut.last (reverse rest) (reverse front) back in
      let m : length (reverse front) ≡ length front = length-reverse front in
      let n : length (reverse behind) ≡ length behind = length-reverse behind in
      omega arith;
}

pub mirrored_lacks : (part text : List ℕ) → Lacks part text → Lacks (reverse part) (reverse text)
mirrored_lacks part text none = λ front rest e. none (reverse rest) (reverse front) (turned part text front rest e)

boundary_from_head : (text part front rest : List ℕ) → text ≡ front ++ (part ++ rest) → 0 < length part → IsUtf8 part → IsCharBoundary text (length front)
boundary_from_head text [] front rest e some utf8 = absurd (omega arith)
boundary_from_head text (p ∷ ps) front rest e some utf8 =
    let fits = place_fits (p ∷ ps) text front rest e in
    let head : get_or text (length front) 0 ≡ p = ap (λ (xs : List ℕ). get_or xs (length front) 0) e ∙ get_or_at front p (ps ++ rest) 0 (length front) refl in
    (omega arith, λ lt big. let h : 192 ≤ p = (IsCharBoundary-start (p ∷ ps) utf8).1 (omega arith) (omega arith) in omega arith)

-- In a text that is UTF-8 an occurrence of a part that is UTF-8 parts characters from characters.
pub occurrence_utf8 : (text part front rest : List ℕ) → IsUtf8 text → IsUtf8 part → 0 < length part → text ≡ front ++ (part ++ rest) → IsUtf8 front × IsUtf8 rest
occurrence_utf8 text part front rest utf8 part-utf8 some e =
    let at = boundary_from_head text part front rest e some part-utf8 in
    let before : IsUtf8 front = subst IsUtf8 (ap (take (length front)) e ∙ take_at front (part ++ rest) (length front) refl) (IsUtf8-take text (length front) utf8 at) in
    let from : IsUtf8 (part ++ rest) = subst IsUtf8 (at_place part text front rest e) (IsUtf8-drop text (length front) utf8 at) in
    let part-front : IsUtf8 (take (length part) (part ++ rest)) = subst IsUtf8 (sym (take_at part rest (length part) refl)) part-utf8 in
    let size : length (part ++ rest) ≡ length part + length rest = length-append part rest in
    let seam = IsCharBoundary-from_take (part ++ rest) (length part) from (omega arith) part-front in
    (before, subst IsUtf8 (drop_at part rest (length part) refl) (IsUtf8-drop (part ++ rest) (length part) from seam))

-- It is an occurrence of the part's characters.
pub occurrence_characters : (text part front rest : List ℕ) → IsUtf8 text → IsUtf8 part → 0 < length part → text ≡ front ++ (part ++ rest) → chars text ≡ chars front ++ (chars part ++ chars rest)
occurrence_characters text part front rest utf8 part-utf8 some e =
    let sides = occurrence_utf8 text part front rest utf8 part-utf8 some e in
    ap chars e ∙ (chars-append front (part ++ rest) sides.0 ∙ ap (λ (cs : List ℕ). chars front ++ cs) (chars-append part rest part-utf8))

pub first_utf8 : (part text : List ℕ) (r : Option (Bor (List ℕ) × Bor (List ℕ))) → IsUtf8 text → IsUtf8 part → 0 < length part → MatchOption r (Lacks part text) (λ x. IsCutAtFirst part text x.0.now x.1.now) → IfSome r (λ x. IsUtf8 x.0.now × IsUtf8 x.1.now)
first_utf8 part text None utf8 part-utf8 some cut = tt
first_utf8 part text (Some x) utf8 part-utf8 some cut = occurrence_utf8 text part x.0.now x.1.now utf8 part-utf8 some cut.whole

pub last_utf8 : (part text : List ℕ) (r : Option (Bor (List ℕ) × Bor (List ℕ))) → IsUtf8 text → IsUtf8 part → 0 < length part → MatchOption r (Lacks part text) (λ x. IsCutAtLast part text x.0.now x.1.now) → IfSome r (λ x. IsUtf8 x.0.now × IsUtf8 x.1.now)
last_utf8 part text None utf8 part-utf8 some cut = tt
last_utf8 part text (Some x) utf8 part-utf8 some cut = occurrence_utf8 text part x.0.now x.1.now utf8 part-utf8 some cut.whole
