-- A text that is made piece by piece, of at most so many bytes.
use Rattle.std.specs.List.{flat_map}
use Rattle.std.proofs.Common.{◌≡◌, ℕ, ◌+◌, ◌<◌, ◌≤◌, true, false, nat_le, List, [], ◌∷◌, ◌++◌, length, Some, None, refl, sym, ap, ◌∙◌, arith}
use Rattle.std.proofs.lemmas.List.{append_assoc, append-nil, length-append}
use Rattle.std.proofs.lemmas.Bool.{lt-leb, le-leb}
use Rattle.text_functions.specs.Pieces.{pieces, joined, Lacks, IsCutAtFirst}
use Rattle.text_functions.specs.Replacing.{within}
use Rattle.text_functions.proofs.PieceLemmas.{joined-cut, joined-lacks}

pub within_fits : (most : ℕ) (all made : List ℕ) → all ≡ made → length made ≤ most → Some made ≡ within most all
within_fits most all made e fits =
    let le : nat_le (length made) most ≡ true = le-leb (length made) most fits in
    let is : within most made ≡ Some made = (rw le refl) in
    sym (ap (within most) e ∙ is)

pub within_not : (most : ℕ) (all : List ℕ) → most < length all → None ≡ within most all
within_not most all over =
    let lt : nat_le (length all) most ≡ false = lt-leb (length all) most over in
    rw lt refl

-- what was made has room, and with the next piece it hasn't
pub too_long : (most : ℕ) (all made piece more : List ℕ) → all ≡ made ++ (piece ++ more) → (length (made ++ piece) ≤ most → ⊥) → None ≡ within most all
too_long most all made piece more e over =
    let size : length all ≡ length (made ++ piece) + length more = ap length (e ∙ sym (append_assoc made piece more)) ∙ length-append (made ++ piece) more in
    within_not most all (omega arith)

pub replaced_next : (by part all made rest before behind : List ℕ) → 0 < length part → IsCutAtFirst part rest before behind → all ≡ made ++ joined by (pieces part rest) → all ≡ made ++ (before ++ (by ++ joined by (pieces part behind)))
replaced_next by part all made rest before behind some cut e = e ∙ ap (λ (xs : List ℕ). made ++ xs) (joined-cut by part rest before behind some cut)

pub replaced_last : (by part all made rest : List ℕ) → Lacks part rest → all ≡ made ++ joined by (pieces part rest) → all ≡ made ++ rest
replaced_last by part all made rest none e = e ∙ ap (λ (xs : List ℕ). made ++ xs) (joined-lacks by part rest none)

pub regroup : (a b c d : List ℕ) → a ++ (b ++ (c ++ d)) ≡ ((a ++ b) ++ c) ++ d
regroup a b c d = sym (append_assoc (a ++ b) c d ∙ append_assoc a b (c ++ d))

pub each_next : (f : ℕ → List ℕ) (all made : List ℕ) (c : ℕ) (cs ds : List ℕ) → cs ≡ c ∷ ds → all ≡ made ++ flat_map f cs → all ≡ made ++ (f c ++ flat_map f ds)
each_next f all made c cs ds first e = e ∙ ap (λ (xs : List ℕ). made ++ flat_map f xs) first

pub each_last : (f : ℕ → List ℕ) (all made cs : List ℕ) → cs ≡ [] → all ≡ made ++ flat_map f cs → all ≡ made
each_last f all made cs none e = e ∙ (ap (λ (xs : List ℕ). made ++ flat_map f xs) none ∙ append-nil made)

-- what was made has grown by a piece
pub grown : (all made piece more next : List ℕ) → all ≡ made ++ (piece ++ more) → next ≡ made ++ piece → all ≡ next ++ more
grown all made piece more next e is = e ∙ (sym (append_assoc made piece more) ∙ ap (λ (xs : List ℕ). xs ++ more) (sym is))

pub within_grown : (most : ℕ) (made piece next : List ℕ) → length (made ++ piece) ≤ most → next ≡ made ++ piece → length next ≤ most
within_grown most made piece next fits e = let same : length next ≡ length (made ++ piece) = ap length e in omega arith

pub with_nothing : (all made piece : List ℕ) → all ≡ made ++ piece → all ≡ made ++ (piece ++ [])
with_nothing all made piece e = e ∙ ap (λ (xs : List ℕ). made ++ xs) (sym (append-nil piece))
