-- Counts and positions, by the first occurrence.
use Rattle.std.specs.Option.{option_map}
use Rattle.std.specs.Str.{chars}
use Rattle.std.proofs.Common.{◌≡◌, ℕ, ◌+◌, ◌-◌, ◌<◌, ◌==◌, List, [], ◌∷◌, ◌++◌, length, take, reverse, Option, Some, None, refl, sym, ap, ◌∙◌, arith, false}
use Rattle.std.proofs.lemmas.List.{take_at, length-append, length-reverse}
use Rattle.text_functions.specs.Pieces.{pieces, Lacks, IsCutAtFirst, IsCutAtLast}
use Rattle.text_functions.specs.Positions.{position_of, place_in, first_place, last_place, index_of, last_index_of}
use Rattle.text_functions.specs.Replacing.{count_of}
use Rattle.text_functions.proofs.PieceLemmas.{pieces-cut, pieces-lacks, pieces-some}
use Rattle.text_functions.proofs.Cutting.{mirrored, mirrored_lacks}

-- where the part has bytes
pub count_is : (text part : List ℕ) → (length part == 0) ≡ false → count_of text part ≡ length (pieces part text) - 1
count_is text part some = rw some refl

pub index_is : (text part : List ℕ) → (length part == 0) ≡ false → index_of text part ≡ option_map (position_of text) (first_place text part)
index_is text part some = rw some refl

pub last_index_is : (text part : List ℕ) → (length part == 0) ≡ false → last_index_of text part ≡ option_map (position_of text) (last_place text part)
last_index_is text part some = rw some refl

pub count_end : (text part rest : List ℕ) (count : ℕ) → (length part == 0) ≡ false → count + length (pieces part rest) ≡ length (pieces part text) → Lacks part rest → count ≡ count_of text part
count_end text part rest count some e none =
    let one : length (pieces part rest) ≡ 1 = ap length (pieces-lacks part rest none) in
    let n : count ≡ length (pieces part text) - 1 = omega arith in
    n ∙ sym (count_is text part some)

place_of-some : (piece : List ℕ) (more : List (List ℕ)) → 0 < length more → place_in (piece ∷ more) ≡ Some (length piece)
place_of-some piece [] some = absurd (omega arith)
place_of-some piece (next ∷ more) some = refl

first_place-cut : (text part before behind : List ℕ) → 0 < length part → IsCutAtFirst part text before behind → first_place text part ≡ Some (length before)
first_place-cut text part before behind some cut =
    ap place_in (pieces-cut part text before behind some cut) ∙ place_of-some before (pieces part behind) (pieces-some part behind 0)

first_place-lacks : (text part : List ℕ) → Lacks part text → first_place text part ≡ None
first_place-lacks text part none = ap place_in (pieces-lacks part text none)

pub index-lacks : (text part : List ℕ) → (length part == 0) ≡ false → Lacks part text → None ≡ index_of text part
index-lacks text part some none = sym (index_is text part some ∙ ap (option_map (position_of text)) (first_place-lacks text part none))

position-front : (text before behind : List ℕ) → text ≡ before ++ behind → position_of text (length before) ≡ length (chars before)
position-front text before behind e =
    ap (λ (xs : List ℕ). length (chars xs)) (ap (take (length before)) e ∙ take_at before behind (length before) refl)

pub index-cut : (text part before behind : List ℕ) → (length part == 0) ≡ false → 0 < length part → IsCutAtFirst part text before behind → Some (length (chars before)) ≡ index_of text part
index-cut text part before behind other some cut =
    sym (index_is text part other ∙ (ap (option_map (position_of text)) (first_place-cut text part before behind some cut) ∙ ap Some (position-front text before (part ++ behind) cut.whole)))

pub last_place-cut : (text part before behind : List ℕ) → 0 < length part → IsCutAtLast part text before behind → last_place text part ≡ Some (length before)
last_place-cut text part before behind some cut =
    let turned : length (reverse part) ≡ length part = length-reverse part in
    let back : length (reverse behind) ≡ length behind = length-reverse behind in
    let size = ap length cut.whole ∙ (length-append before (part ++ behind) ∙ ap (λ (n : ℕ). length before + n) (length-append part behind)) in
    let at : length text - length (reverse behind) - length part ≡ length before = omega arith in
    ap (option_map (λ (n : ℕ). length text - n - length part)) (first_place-cut (reverse text) (reverse part) (reverse behind) (reverse before) (omega arith) (mirrored part text before behind cut))
    ∙ ap Some at

pub last_index-cut : (text part before behind : List ℕ) → (length part == 0) ≡ false → 0 < length part → IsCutAtLast part text before behind → Some (length (chars before)) ≡ last_index_of text part
last_index-cut text part before behind other some cut =
    sym (last_index_is text part other ∙ (ap (option_map (position_of text)) (last_place-cut text part before behind some cut) ∙ ap Some (position-front text before (part ++ behind) cut.whole)))

pub last_index-lacks : (text part : List ℕ) → (length part == 0) ≡ false → Lacks part text → None ≡ last_index_of text part
last_index-lacks text part some none =
    sym (last_index_is text part some ∙ ap (λ (place : Option ℕ). option_map (position_of text) (option_map (λ (n : ℕ). length text - n - length part) place)) (first_place-lacks (reverse text) (reverse part) (mirrored_lacks part text none)))
