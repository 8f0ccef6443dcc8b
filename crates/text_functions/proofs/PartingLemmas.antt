-- The pieces of a text are the one list that parts it at its first occurrences.
use Rattle.std.specs.List.{starts_with}
use Rattle.std.proofs.Common.{◌≡◌, ℕ, zero, suc, ◌+◌, ◌<◌, ◌≤◌, Bool, true, false, nat_eq, List, [], ◌∷◌, ◌++◌, length, drop, ◌⊎◌, inl, inr, ⊎_elim, refl, sym, ap, subst, ◌∙◌, arith}
use Rattle.std.proofs.lemmas.Slice.Eq.{starts_is}
use Rattle.std.proofs.lemmas.Bool.{false≢true}
use Rattle.std.proofs.lemmas.Bool.Decides.{Decides-eqb}
use Rattle.std.proofs.lemmas.List.{length-append}
use Rattle.text_functions.specs.Pieces.{pieces, joined, Lacks, IsCutAtFirst, IsPartedInto}
use Rattle.text_functions.proofs.PieceLemmas.{pieces-cut, pieces-lacks, pieces-some, cut-shorter}

tail_of : (x y : ℕ) (xs ys : List ℕ) → x ∷ xs ≡ y ∷ ys → xs ≡ ys
tail_of x y xs ys e = cc

-- a text that is too short
short_lacks : (part text : List ℕ) → length text < length part → Lacks part text
short_lacks part text short = λ front rest e.
    let size : length text ≡ length front + (length part + length rest) = ap length e ∙ (length-append front (part ++ rest) ∙ ap (λ (n : ℕ). length front + n) (length-append part rest)) in
    omega arith

-- a text that doesn't begin with the part has it where the rest has it
later_lacks : (part : List ℕ) (b : ℕ) (bs : List ℕ) → starts_with nat_eq (b ∷ bs) part ≡ false → Lacks part bs → (front rest : List ℕ) → b ∷ bs ≡ front ++ (part ++ rest) → ⊥
later_lacks part b bs other none [] rest e = false≢true (sym other ∙ (starts_is Decides-eqb (b ∷ bs) part _ refl).1 rest e)
later_lacks part b bs other none (x ∷ front) rest e = none front rest (tail_of b x bs (front ++ (part ++ rest)) e)

later_first : (part : List ℕ) (b : ℕ) (bs before behind : List ℕ) → starts_with nat_eq (b ∷ bs) part ≡ false → IsCutAtFirst part bs before behind → (front rest : List ℕ) → b ∷ bs ≡ front ++ (part ++ rest) → suc (length before) ≤ length front
later_first part b bs before behind other cut [] rest e = absurd (false≢true (sym other ∙ (starts_is Decides-eqb (b ∷ bs) part _ refl).1 rest e))
later_first part b bs before behind other cut (x ∷ front) rest e =
    let le : length before ≤ length front = cut.first front rest (tail_of b x bs (front ++ (part ++ rest)) e) in omega arith

abbrev Cut : List ℕ → List ℕ → Type 0
Cut part text = (before : List ℕ) × (behind : List ℕ) × IsCutAtFirst part text before behind

cut_by : (part : List ℕ) (b : ℕ) (bs : List ℕ) (is : Bool) → starts_with nat_eq (b ∷ bs) part ≡ is → Lacks part bs ⊎ Cut part bs → Lacks part (b ∷ bs) ⊎ Cut part (b ∷ bs)
cut_by part b bs true is later =
    inr ([], drop (length part) (b ∷ bs), record { whole = (starts_is Decides-eqb (b ∷ bs) part _ refl).0 is; first = λ front rest e. omega arith })
cut_by part b bs false is (inl none) = inl (later_lacks part b bs is none)
cut_by part b bs false is (inr (before, behind, cut)) =
    inr (b ∷ before, behind, record { whole = ap (λ (xs : List ℕ). b ∷ xs) cut.whole; first = later_first part b bs before behind is cut })

-- a text lacks the part, or has a first occurrence
cut_of : (part text : List ℕ) → 0 < length part → Lacks part text ⊎ Cut part text
cut_of part [] some = inl (short_lacks part [] some)
cut_of part (b ∷ bs) some = cut_by part b bs _ refl (cut_of part bs some)

parted_last : (part text : List ℕ) → Lacks part text → IsPartedInto part text (text ∷ [])
unfolding IsPartedInto
parted_last part text none = (refl, none)

parted_more : (part text before behind : List ℕ) (more : List (List ℕ)) → 0 < length more → IsCutAtFirst part text before behind → IsPartedInto part behind more → IsPartedInto part text (before ∷ more)
unfolding IsPartedInto
parted_more part text before behind [] some cut is = absurd (omega arith)
parted_more part text before behind (next ∷ more) some cut is = (behind, cut, is)

parted_lacks : (part text : List ℕ) → Lacks part text → IsPartedInto part text (pieces part text)
parted_lacks part text none = subst (IsPartedInto part text) (sym (pieces-lacks part text none)) (parted_last part text none)

parted_cut : (part text before behind : List ℕ) → 0 < length part → IsCutAtFirst part text before behind → IsPartedInto part behind (pieces part behind) → IsPartedInto part text (pieces part text)
parted_cut part text before behind some cut is =
    subst (IsPartedInto part text) (sym (pieces-cut part text before behind some cut)) (parted_more part text before behind (pieces part behind) (pieces-some part behind 0) cut is)

parted_by : (n : ℕ) (part text : List ℕ) → 0 < length part → length text ≤ n → IsPartedInto part text (pieces part text)
parted_by zero part text some le = parted_lacks part text (short_lacks part text (omega arith))
parted_by (suc n) part text some le =
    ⊎_elim (λ none. parted_lacks part text none)
    (λ (at : Cut part text).
    let less = cut-shorter part text at.0 at.1 some at.2 in
    parted_cut part text at.0 at.1 some at.2 (parted_by n part at.1 some (omega arith)))
    (cut_of part text some)

pub parted : (part text : List ℕ) → 0 < length part → IsPartedInto part text (pieces part text)
parted part text some = parted_by (length text) part text some (omega arith)

pub parted_one : (part text : List ℕ) (others : List (List ℕ)) → 0 < length part → IsPartedInto part text others → others ≡ pieces part text
unfolding IsPartedInto
parted_one part text [] some is = absurd is
parted_one part text (piece ∷ []) some is = ap (λ (xs : List ℕ). xs ∷ []) (sym is.0) ∙ sym (pieces-lacks part text is.1)
parted_one part text (piece ∷ next ∷ more) some is =
    ap (λ (ps : List (List ℕ)). piece ∷ ps) (parted_one part is.0 (next ∷ more) some is.2) ∙ sym (pieces-cut part text piece is.0 some is.1)

pub parted_whole : (part text : List ℕ) (ps : List (List ℕ)) → IsPartedInto part text ps → joined part ps ≡ text
unfolding IsPartedInto joined
parted_whole part text [] is = absurd is
parted_whole part text (piece ∷ []) is = sym is.0
parted_whole part text (piece ∷ next ∷ more) is =
    ap (λ (xs : List ℕ). piece ++ (part ++ xs)) (parted_whole part is.0 (next ∷ more) is.2) ∙ sym is.1.whole
