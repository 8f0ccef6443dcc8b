-- The pieces of a text, by its first occurrence.
use Rattle.std.specs.List.{starts_with, onto_first}
use Rattle.std.proofs.Common.{◌≡◌, ◌≢◌, ℕ, zero, suc, ◌+◌, ◌-◌, ◌<◌, ◌≤◌, Bool, true, false, nat_eq, if◌then◌else◌, List, [], ◌∷◌, ◌++◌, length, refl, ap, ◌∙◌, arith}
use Rattle.std.proofs.lemmas.Slice.Eq.{starts_is}
use Rattle.std.proofs.lemmas.Bool.{false_from_ne_true}
use Rattle.std.proofs.lemmas.Bool.Decides.{Decides-eqb}
use Rattle.std.proofs.lemmas.List.{length-append}
use Rattle.text_functions.specs.Pieces.{pieces, pieces_behind, joined, Lacks, IsCutAtFirst}

-- a text that doesn't begin with a part
begins_not : (part text : List ℕ) → ((rest : List ℕ) → text ≢ part ++ rest) → starts_with nat_eq text part ≡ false
begins_not part text none = false_from_ne_true _ (λ is. none _ ((starts_is Decides-eqb text part _ refl).0 is))

begins : (part rest : List ℕ) → starts_with nat_eq (part ++ rest) part ≡ true
begins part rest = (starts_is Decides-eqb (part ++ rest) part _ refl).1 rest refl

at_other : (part : List ℕ) (b : ℕ) (bs : List ℕ) → starts_with nat_eq (b ∷ bs) part ≡ false → pieces part (b ∷ bs) ≡ onto_first b (pieces part bs)
unfolding pieces_behind
at_other part b bs e = rw e refl

at_part : (part : List ℕ) (b : ℕ) (bs : List ℕ) → starts_with nat_eq (b ∷ bs) part ≡ true → pieces part (b ∷ bs) ≡ [] ∷ pieces_behind part bs (length part - 1)
unfolding pieces_behind
at_part part b bs e = rw e refl

-- a text that lacks the part is one piece
pub pieces-lacks : (part text : List ℕ) → Lacks part text → pieces part text ≡ text ∷ []
unfolding pieces_behind
pieces-lacks part [] none = refl
pieces-lacks part (b ∷ bs) none =
    at_other part b bs (begins_not part (b ∷ bs) (λ rest. none [] rest))
    ∙ ap (onto_first b) (pieces-lacks part bs (λ front rest e. none (b ∷ front) rest (ap (λ xs. b ∷ xs) e)))

passed : (part xs bs : List ℕ) → pieces_behind part (xs ++ bs) (length xs) ≡ pieces part bs
unfolding pieces_behind
passed part [] bs = refl
passed part (x ∷ xs) bs = passed part xs bs

pieces-begun : (part behind : List ℕ) → 0 < length part → pieces part (part ++ behind) ≡ [] ∷ pieces part behind
pieces-begun [] behind some = absurd (omega arith)
pieces-begun (p ∷ ps) behind some =
    let size : suc (length ps) - 1 ≡ length ps = omega arith in
    at_part (p ∷ ps) p (ps ++ behind) (begins (p ∷ ps) behind)
    ∙ (ap (λ (n : ℕ). [] ∷ pieces_behind (p ∷ ps) (ps ++ behind) n) size
    ∙ ap (λ (more : List (List ℕ)). [] ∷ more) (passed (p ∷ ps) ps behind))

pieces-parted : (part before behind : List ℕ) → 0 < length part → ((front rest : List ℕ) → before ++ (part ++ behind) ≡ front ++ (part ++ rest) → length before ≤ length front) → pieces part (before ++ (part ++ behind)) ≡ before ∷ pieces part behind
pieces-parted part [] behind some first = pieces-begun part behind some
pieces-parted part (b ∷ bs) behind some first =
    let other : starts_with nat_eq (b ∷ (bs ++ (part ++ behind))) part ≡ false = begins_not part (b ∷ (bs ++ (part ++ behind))) (λ rest e. let h : suc (length bs) ≤ 0 = first [] rest e in omega arith) in
    at_other part b (bs ++ (part ++ behind)) other
    ∙ ap (onto_first b) (pieces-parted part bs behind some (λ front rest e. let h : suc (length bs) ≤ suc (length front) = first (b ∷ front) rest (ap (λ xs. b ∷ xs) e) in omega arith))

-- a text that is cut at the first occurrence has what stands before it as its first piece, and then the pieces of what stands behind it
pub pieces-cut : (part text before behind : List ℕ) → 0 < length part → IsCutAtFirst part text before behind → pieces part text ≡ before ∷ pieces part behind
pieces-cut part text before behind some cut =
    ap (pieces part) cut.whole ∙ pieces-parted part before behind some (λ front rest e. cut.first front rest (cut.whole ∙ e))

onto_first-some : (b : ℕ) (ps : List (List ℕ)) → 0 < length (onto_first b ps)
onto_first-some b [] = omega arith
onto_first-some b (p ∷ ps) = omega arith

by_start : (part : List ℕ) (b : ℕ) (bs : List ℕ) (is : Bool) → 0 < length (if is then [] ∷ pieces_behind part bs (length part - 1) else onto_first b (pieces_behind part bs zero))
by_start part b bs true = omega arith
by_start part b bs false = onto_first-some b _

pub pieces-some : (part text : List ℕ) (left : ℕ) → 0 < length (pieces_behind part text left)
unfolding pieces_behind
pieces-some part [] left = omega arith
pieces-some part (b ∷ bs) zero = by_start part b bs (starts_with nat_eq (b ∷ bs) part)
pieces-some part (b ∷ bs) (suc left) = pieces-some part bs left

pub joined-more : (by piece : List ℕ) (more : List (List ℕ)) → 0 < length more → joined by (piece ∷ more) ≡ piece ++ (by ++ joined by more)
unfolding joined
joined-more by piece [] some = absurd (omega arith)
joined-more by piece (next ∷ more) some = refl

pub joined-one : (by piece : List ℕ) → joined by (piece ∷ []) ≡ piece
unfolding joined
joined-one by piece = refl

pub joined-cut : (by part text before behind : List ℕ) → 0 < length part → IsCutAtFirst part text before behind → joined by (pieces part text) ≡ before ++ (by ++ joined by (pieces part behind))
joined-cut by part text before behind some cut =
    ap (joined by) (pieces-cut part text before behind some cut) ∙ joined-more by before (pieces part behind) (pieces-some part behind 0)

pub joined-lacks : (by part text : List ℕ) → Lacks part text → joined by (pieces part text) ≡ text
joined-lacks by part text none = ap (joined by) (pieces-lacks part text none) ∙ joined-one by text

pub count-cut : (part text before behind : List ℕ) → 0 < length part → IsCutAtFirst part text before behind → length (pieces part text) ≡ suc (length (pieces part behind))
count-cut part text before behind some cut = ap length (pieces-cut part text before behind some cut)

pub cut-shorter : (part text before behind : List ℕ) → 0 < length part → IsCutAtFirst part text before behind → length behind < length text
cut-shorter part text before behind some cut =
    let size = ap length cut.whole ∙ (length-append before (part ++ behind) ∙ ap (λ (n : ℕ). length before + n) (length-append part behind)) in
    omega arith
