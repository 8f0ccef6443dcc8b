-- Sets of numbers, name by name.
use Rattle.std.proofs.Common.{◌≡◌, ◌≢◌, ◌⊎◌, ⊎_elim, inl, inr, ℕ, zero, suc, ◌+◌, ◌<◌, ◌≤◌, true, false, List, [], ◌∷◌, ◌++◌, length, take, get_or, refl, sym, ◌∙◌, ap, subst, arith, cond, Contains}
use Rattle.std.specs.Ordering.{nat_cmp, is_eq}
use Rattle.std.specs.declared.cmp.Ordering.TheVariants.{Less, Equal, Greater}
use Rattle.std.specs.Cmp.{nat_cmp_is}
use Rattle.std.specs.BTreeSet.{BTreeSet, contains}
use Rattle.std.specs.List.{list_any}
use Rattle.std.proofs.lemmas.Bool.{cases_order, false≢true}
use Rattle.std.proofs.lemmas.List.Elements.{Contains-append_left, Contains-append_right, Contains-append_cases}
use Rattle.std.proofs.lemmas.List.{append_cancel_left, take_all}
use Rattle.std.proofs.Math.Seq.{take-suc}
use Rattle.run_model.proofs.Generations.{one_text}
use Rattle.generations.specs.Numbers.{IsGenerationOf, IsNoGeneration}
use Rattle.generations.specs.There.{AreNumbers, AddsName}

same_number : (a b : ℕ) → a ≡ b → is_eq (nat_cmp a b) ≡ true
same_number a b e = ap is_eq (sym (nat_cmp_is a b Equal e))

other_number : (a b : ℕ) → a ≢ b → is_eq (nat_cmp a b) ≡ false
other_number a b apart = ⊎_elim (λ e. absurd (apart e)) (λ more. ⊎_elim (λ lt. ap is_eq (sym (nat_cmp_is a b Less lt))) (λ gt. ap is_eq (sym (nat_cmp_is a b Greater gt))) more) (cases_order a b)

equal_numbers : (a b : ℕ) → (a ≡ b) ⊎ (a ≢ b)
equal_numbers a b = ⊎_elim (λ e. inl e) (λ more. inr (λ e. ⊎_elim (λ lt. omega (arith, lt, e)) (λ gt. omega (arith, gt, e)) more)) (cases_order a b)

-- a name has one number
one_generation : (front name : List ℕ) (a b : ℕ) → IsGenerationOf front name a → IsGenerationOf front name b → a ≡ b
one_generation front name a b f g = one_text a b (sym f.is.is ∙ (append_cancel_left front f.text g.text (sym f.parts ∙ g.parts) ∙ g.is.is))

only_at : (name other : List ℕ) (k : ℕ) → k < 1 → get_or (name ∷ []) k other ≡ other → other ≡ name
only_at name other zero lt is = sym is
only_at name other (suc k) lt is = absurd (omega (arith, lt))

only_name : (names : List (List ℕ)) (name other : List ℕ) → Contains (name ∷ []) other → other ≡ name
only_name names name other among = only_at name other among.0 among.1 among.2

pub numbers_none : (front : List ℕ) (numbers : BTreeSet ℕ) → numbers.keys ≡ [] → AreNumbers front [] numbers
numbers_none front numbers none = λ number. (λ has. absurd (false≢true (sym (ap (list_any (λ k. is_eq (nat_cmp number k))) none) ∙ has)), λ has. absurd (let at = has.among.1 in omega (arith, at)))

pub number_more : (front name : List ℕ) (number : ℕ) (old new : BTreeSet ℕ) → IsGenerationOf front name number → ((q : ℕ) → contains nat_cmp new q ≡ cond (is_eq (nat_cmp number q)) true (contains nat_cmp old q)) → AddsName front name old new
number_more front name number old new is updates = λ names are q. (
  λ has. ⊎_elim
      (λ e. record { name = name; among = Contains-append_right names (name ∷ []) name (0, omega arith, refl); of_name = subst (IsGenerationOf front name) e is })
      (λ apart.
      let was : contains nat_cmp old q ≡ true = sym (updates q ∙ ap (λ b. cond b true (contains nat_cmp old q)) (other_number number q apart)) ∙ has in
      let there = (are q).0 was in
      record { name = there.name; among = Contains-append_left names (name ∷ []) there.name there.among; of_name = there.of_name })
      (equal_numbers number q),
  λ there. ⊎_elim
      (λ before.
      let was = (are q).1 (record { name = there.name; among = before; of_name = there.of_name }) in
      ⊎_elim
      (λ e. updates q ∙ ap (λ b. cond b true (contains nat_cmp old q)) (same_number number q e))
      (λ apart. updates q ∙ ap (λ b. cond b true (contains nat_cmp old q)) (other_number number q apart) ∙ was)
      (equal_numbers number q))
      (λ last.
      let same = only_name names name there.name last in
      let e = one_generation front name number q is (subst (λ (n : List ℕ). IsGenerationOf front n q) same there.of_name) in
      updates q ∙ ap (λ b. cond b true (contains nat_cmp old q)) (same_number number q e))
      (Contains-append_cases names (name ∷ []) there.name there.among),
)

pub number_same : (front name : List ℕ) (numbers : BTreeSet ℕ) → IsNoGeneration front name → AddsName front name numbers numbers
number_same front name numbers none = λ names are q. (
  λ has. let there = (are q).0 has in record { name = there.name; among = Contains-append_left names (name ∷ []) there.name there.among; of_name = there.of_name },
  λ there. ⊎_elim
      (λ before. (are q).1 (record { name = there.name; among = before; of_name = there.of_name }))
      (λ last. absurd (none q (subst (λ (n : List ℕ). IsGenerationOf front n q) (only_name names name there.name last) there.of_name)))
      (Contains-append_cases names (name ∷ []) there.name there.among),
)

pub numbers_step : (front : List ℕ) (names : List (List ℕ)) (i : ℕ) (name : List ℕ) (old new : BTreeSet ℕ) → i < length names → name ≡ get_or names i name → AreNumbers front (take i names) old → AddsName front name old new → AreNumbers front (take (i + 1) names) new
numbers_step front names i name old new lt is are adds =
    let next : suc i ≡ i + 1 = omega arith in
    let e : take i names ++ name ∷ [] ≡ take (i + 1) names = ap (λ n. take i names ++ n ∷ []) is ∙ (sym (take-suc names i name lt) ∙ ap (λ k. take k names) next) in
    subst (λ (ns : List (List ℕ)). AreNumbers front ns new) e (adds (take i names) are)

pub numbers_all : (front : List ℕ) (names all : List (List ℕ)) (i : ℕ) (numbers : BTreeSet ℕ) → length all ≤ i → all ≡ names → AreNumbers front (take i all) numbers → AreNumbers front names numbers
numbers_all front names all i numbers le same are = subst (λ (ns : List (List ℕ)). AreNumbers front ns numbers) (take_all i all le ∙ same) are
