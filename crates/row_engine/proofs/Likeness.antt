-- The test of a likeness tells it.
use Rattle.std.proofs.Common.{◌≡◌, ◌↔◌, ℕ, ◌==◌, Bool, true, false, ◌||◌, ◌&&◌, List, [], ◌∷◌, refl, sym, ap, subst, ◌∙◌, cond}
use Rattle.std.specs.Bool.{IsTrue}
use Rattle.std.proofs.lemmas.Bool.{false≢true, eqb-true}
use Rattle.text_functions.specs.Likes.{Likes, stands_for}
use Rattle.text_functions.proofs.LikeLemmas.{percent_start, percent_more, percent_skips, percent_end, character_same, character_other, character_end}
use Rattle.row_engine.specs.Likeness.{is_like, is_empty, holds_behind, holds_next}

-- what a test has to tell of a pattern
abbrev Tells : (List ℕ → Bool) → List ℕ → Type 0
Tells test ps = (text : List ℕ) → IsTrue (test text) ↔ Likes ps text

empty_tells : Tells is_empty []
unfolding Likes
empty_tells [] = (λ e. refl, λ h. refl)
empty_tells (c ∷ cs) = (λ e. absurd (false≢true e), λ h. cc)

behind_step : (test : List ℕ → Bool) (ps : List ℕ) (c : ℕ) (cs : List ℕ) → (IsTrue (test (c ∷ cs)) ↔ Likes ps (c ∷ cs)) → (IsTrue (holds_behind test cs) ↔ Likes (37 ∷ ps) cs)
    → (b : Bool) → test (c ∷ cs) ≡ b → IsTrue (holds_behind test (c ∷ cs)) ↔ Likes (37 ∷ ps) (c ∷ cs)
behind_step test ps c cs here later true is = (λ e. percent_start ps (c ∷ cs) (here.0 is), λ h. ap (λ (b : Bool). b || holds_behind test cs) is)
behind_step test ps c cs here later false is =
    let same : holds_behind test (c ∷ cs) ≡ holds_behind test cs = ap (λ (b : Bool). b || holds_behind test cs) is in
    (λ e. percent_more ps c cs (later.0 (sym same ∙ e)), λ h. same ∙ later.1 (percent_skips ps c cs (λ l. false≢true (sym is ∙ here.1 l)) h))

-- `%`
behind_tells : (test : List ℕ → Bool) (ps : List ℕ) → Tells test ps → Tells (holds_behind test) (37 ∷ ps)
behind_tells test ps tells [] = let here = tells [] in (λ e. percent_start ps [] (here.0 e), λ h. here.1 (percent_end ps h))
behind_tells test ps tells (c ∷ cs) = behind_step test ps c cs (tells (c ∷ cs)) (behind_tells test ps tells cs) (test (c ∷ cs)) refl

next_step : (p : ℕ) → (p == 37) ≡ false → (test : List ℕ → Bool) (ps : List ℕ) (c : ℕ) (cs : List ℕ) → (IsTrue (test cs) ↔ Likes ps cs)
    → (b : Bool) → stands_for p c ≡ b → IsTrue (holds_next p test (c ∷ cs)) ↔ Likes (p ∷ ps) (c ∷ cs)
next_step p other test ps c cs rest true is =
    let same : holds_next p test (c ∷ cs) ≡ test cs = ap (λ (b : Bool). b && test cs) is in
    let both = character_same p c ps cs other is in
    (λ e. both.1 (rest.0 (sym same ∙ e)), λ h. same ∙ rest.1 (both.0 h))
next_step p other test ps c cs rest false is =
    let same : holds_next p test (c ∷ cs) ≡ false = ap (λ (b : Bool). b && test cs) is in
    (λ e. absurd (false≢true (sym same ∙ e)), λ h. absurd (character_other p c ps cs other is h))

-- another character
next_tells : (p : ℕ) → (p == 37) ≡ false → (test : List ℕ → Bool) (ps : List ℕ) → Tells test ps → Tells (holds_next p test) (p ∷ ps)
next_tells p other test ps tells [] = (λ e. absurd (false≢true e), λ h. absurd (character_end p ps other h))
next_tells p other test ps tells (c ∷ cs) = next_step p other test ps c cs (tells cs) (stands_for p c) refl

first_tells : (p : ℕ) (ps : List ℕ) → Tells (is_like ps) ps → (b : Bool) → (p == 37) ≡ b → Tells (is_like (p ∷ ps)) (p ∷ ps)
unfolding is_like
first_tells p ps tells true is text =
    let same : is_like (p ∷ ps) text ≡ holds_behind (is_like ps) text = ap (λ (b : Bool). cond b (holds_behind (is_like ps) text) (holds_next p (is_like ps) text)) is in
    let found = behind_tells (is_like ps) ps tells text in
    let percent : p ≡ 37 = eqb-true p 37 is in
    (λ e. subst (λ (q : ℕ). Likes (q ∷ ps) text) (sym percent) (found.0 (sym same ∙ e)), λ h. same ∙ found.1 (subst (λ (q : ℕ). Likes (q ∷ ps) text) percent h))
first_tells p ps tells false is text =
    let same : is_like (p ∷ ps) text ≡ holds_next p (is_like ps) text = ap (λ (b : Bool). cond b (holds_behind (is_like ps) text) (holds_next p (is_like ps) text)) is in
    let found = next_tells p is (is_like ps) ps tells text in
    (λ e. found.0 (sym same ∙ e), λ h. same ∙ found.1 h)

pub tells : (ps text : List ℕ) → IsTrue (is_like ps text) ↔ Likes ps text
unfolding is_like
tells [] = empty_tells
tells (p ∷ ps) = first_tells p ps (tells ps) (p == 37) refl

same_bool : (a b : Bool) → (IsTrue a → IsTrue b) → (IsTrue b → IsTrue a) → a ≡ b
same_bool true b to from = sym (to refl)
same_bool false true to from = from refl
same_bool false false to from = refl

-- two tests of one thing
pub told : (ps text : List ℕ) (a : Bool) → IsTrue a ↔ Likes ps text → a ≡ is_like ps text
told ps text a is = let other = tells ps text in same_bool a (is_like ps text) (λ e. other.1 (is.0 e)) (λ e. is.1 (other.0 e))
