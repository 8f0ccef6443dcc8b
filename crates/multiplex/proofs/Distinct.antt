-- Names that differ from each other, and the rows of each.
use Rattle.std.proofs.Common.{◌≡◌, ℕ, zero, suc, ◌+◌, Bool, true, false, not, cond, ◌||◌, ◌&&◌, ◌==◌, true≢false, List, [], ◌∷◌, map, filter, slice_get, Some, refl, sym, ◌∙◌, ap, subst, arith}
use Rattle.std.specs.Prelude.{bytes_eq}
use Rattle.std.specs.Bool.{⊤}
use Rattle.std.specs.Cmp.Lexicographic.{nat_list_eq_equiv}
use Rattle.std.proofs.lemmas.Bool.Decides.{Decides-eqb}
use Rattle.std.proofs.lemmas.Slice.Eq.{bytes_eq-Decides}
use Rattle.log_listing.specs.Firsts.{firsts}
use Rattle.multiplex.specs.Placing.{index_among}
use Rattle.multiplex.proofs.Names.{among, one_name, among_others, name_at_index}

-- no name comes twice
abbrev pub Differ : List (List ℕ) → Type 0
Differ [] = ⊤
Differ (x ∷ xs) = (among x xs ≡ false) × Differ xs

-- a name that isn't there isn't among some of them
fewer : (keep : List ℕ → Bool) (name : List ℕ) (names : List (List ℕ)) → among name names ≡ false → among name (filter keep names) ≡ false
fewer keep name [] none = refl
fewer keep name (x ∷ xs) none = by (fewer keep name xs) (bytes_eq name x) (keep x) refl refl
  where
    by : (among name xs ≡ false → among name (filter keep xs) ≡ false) → (b d : Bool) → bytes_eq name x ≡ b → keep x ≡ d → among name (filter keep (x ∷ xs)) ≡ false
    by rest true d e f = absurd (true≢false (sym (ap (λ (b : Bool). b || among name xs) e) ∙ none))
    by rest false true e f =
        ap (λ (d : Bool). among name (cond d (x ∷ filter keep xs) (filter keep xs))) f ∙ ap (λ (b : Bool). b || among name (filter keep xs)) e ∙ rest (sym (ap (λ (b : Bool). b || among name xs) e) ∙ none)
    by rest false false e f =
        ap (λ (d : Bool). among name (cond d (x ∷ filter keep xs) (filter keep xs))) f ∙ rest (sym (ap (λ (b : Bool). b || among name xs) e) ∙ none)

some_differ : (keep : List ℕ → Bool) (names : List (List ℕ)) → Differ names → Differ (filter keep names)
some_differ keep [] differ = tt
some_differ keep (x ∷ xs) differ = by (some_differ keep xs differ.1) (keep x) refl
  where
    by : Differ (filter keep xs) → (d : Bool) → keep x ≡ d → Differ (filter keep (x ∷ xs))
    by rest true f = subst (λ (d : Bool). Differ (cond d (x ∷ filter keep xs) (filter keep xs))) (sym f) (fewer keep x xs differ.0, rest)
    by rest false f = subst (λ (d : Bool). Differ (cond d (x ∷ filter keep xs) (filter keep xs))) (sym f) rest

-- the first ones differ
pub firsts_differ : (names : List (List ℕ)) → Differ (firsts names)
firsts_differ [] = tt
firsts_differ (x ∷ xs) = (
  among_others x x (firsts xs) ∙ ap (λ (b : Bool). not b && among x (firsts xs)) (nat_list_eq_equiv.refl x),
  some_differ (λ other. not (bytes_eq other x)) (firsts xs) (firsts_differ xs),
)

or_true : (b : Bool) → (b || true) ≡ true
or_true true = refl
or_true false = refl

among_at : (names : List (List ℕ)) (i : ℕ) (name : List ℕ) → slice_get names i ≡ Some name → among name names ≡ true
among_at [] i name at = absurd (cc)
among_at (x ∷ xs) zero name at = let same : x ≡ name = cc in ap (λ (n : List ℕ). bytes_eq name n || among name xs) same ∙ ap (λ (b : Bool). b || among name xs) (nat_list_eq_equiv.refl name)
among_at (x ∷ xs) (suc i) name at = ap (λ (b : Bool). bytes_eq name x || b) (among_at xs i name at) ∙ or_true (bytes_eq name x)

-- where names differ, a name's place is the one where it stands
pub place_is : (names : List (List ℕ)) (i : ℕ) (name : List ℕ) → Differ names → slice_get names i ≡ Some name → index_among names name ≡ i
place_is [] i name differ at = absurd (cc)
place_is (x ∷ xs) zero name differ at = let same : x ≡ name = cc in ap (λ (n : List ℕ). index_among (n ∷ xs) name) same ∙ ap (λ (b : Bool). cond (not b) (1 + index_among xs name) 0) (nat_list_eq_equiv.refl name)
place_is (x ∷ xs) (suc i) name differ at = by (place_is xs i name differ.1 at) (bytes_eq name x) refl
  where
    by : index_among xs name ≡ i → (b : Bool) → bytes_eq name x ≡ b → index_among (x ∷ xs) name ≡ suc i
    by rest true e = absurd (true≢false (sym (among_at xs i name at) ∙ ap (λ (n : List ℕ). among n xs) (one_name name x e) ∙ differ.0))
    by rest false e = let here : index_among (x ∷ xs) name ≡ 1 + index_among xs name = ap (λ (b : Bool). cond (not b) (1 + index_among xs name) 0) e in omega (arith, here, rest)

-- two names are the same where their places are
pub same_place : (names : List (List ℕ)) (i : ℕ) (name other : List ℕ) → Differ names → slice_get names i ≡ Some name → among other names ≡ true → bytes_eq name other ≡ (index_among names other == i)
same_place names i name other differ at there = by (bytes_eq name other) (index_among names other == i) refl refl
  where
    by : (b d : Bool) → bytes_eq name other ≡ b → (index_among names other == i) ≡ d → bytes_eq name other ≡ (index_among names other == i)
    by true true e f = e ∙ sym f
    by false false e f = e ∙ sym f
    by true false e f =
        let place : index_among names other ≡ i = ap (index_among names) (sym (one_name name other e)) ∙ place_is names i name differ at in
        absurd (true≢false (sym ((Decides-eqb (index_among names other) i).1 place) ∙ f))
    by false true e f =
        let place : index_among names other ≡ i = (Decides-eqb (index_among names other) i).0 f in
        let both : Some name ≡ Some other = sym at ∙ ap (slice_get names) (sym place) ∙ name_at_index names other there in
        let same : name ≡ other = cc in
        absurd (true≢false (sym ((bytes_eq-Decides name other).1 same) ∙ e))

-- two tests that agree at the elements of a list keep the same
pub kept_alike : {X : Type 0} (name : X → List ℕ) (p q : X → Bool) (xs : List X) → ((x : X) → among (name x) (map name xs) ≡ true → p x ≡ q x) → filter p xs ≡ filter q xs
kept_alike {X = X} name p q [] alike = refl
kept_alike {X = X} name p q (x ∷ xs) alike =
    let own : among (name x) (map name (x ∷ xs)) ≡ true = ap (λ (b : Bool). b || among (name x) (map name xs)) (nat_list_eq_equiv.refl (name x)) in
    let rest : filter p xs ≡ filter q xs = kept_alike name p q xs (λ y one. alike y (ap (λ (b : Bool). bytes_eq (name y) (name x) || b) one ∙ or_true (bytes_eq (name y) (name x)))) in
    ap (λ (b : Bool). cond b (x ∷ filter p xs) (filter p xs)) (alike x own) ∙ ap (λ (l : List X). cond (q x) (x ∷ l) l) rest
