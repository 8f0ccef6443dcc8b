-- Each list of keys once.
use Rattle.std.proofs.Common.{◌≡◌, ◌<◌, ℕ, suc, zero, Bool, true, false, not, ◌&&◌, ◌||◌, cond, List, [], ◌∷◌, ◌++◌, map, filter, length, slice_set, slice_get, get_or, drop, replicate, position, arith, is_some, unwrap_or, Option, Some, None, refl, sym, ◌∙◌, ap, subst, true≢false, if◌then◌else◌}
use Rattle.std.specs.Cmp.{IsEquivalence}
use Rattle.std.specs.Cmp.Lexicographic.{pointwise}
use Rattle.std.specs.List.{list_any, IsDistinct, AllByRecursion}
use Rattle.std.proofs.lemmas.Cmp.{lists_equiv}
use Rattle.std.proofs.lemmas.List.Elements.{filter-append}
use Rattle.std.proofs.lemmas.Map.Views.{any-filter_same}
use Rattle.std.proofs.lemmas.Slice.Eq.{slice_eq-Decides}
use Rattle.std.specs.Ordering.{is_eq}
use Rattle.std.specs.Option.{MatchOption}
use Rattle.std.proofs.lemmas.List.Quantifiers.{position-Some}
use Rattle.indexmap.specs.IndexSet.{insert_key}
use Rattle.lp_values.specs.declared.value.Value.{Value}
use Rattle.lp_values.specs.contracts.value.ValueOrd.TheImpl.Laws.{matches_eq-law}
use Rattle.lp_values.specs.contracts.value.ValueEq.TheImpl.Laws.{laws-law}
use Rattle.lp_values.specs.contracts.value.ValuePartialEq.TheImpl.{eq-value}
use Rattle.lp_values.specs.Order.{order_of}
use Rattle.lp_values.proofs.OrderLemmas.{derived}
use Rattle.lp_values.proofs.SameLemmas.{values_same}
use Rattle.group_rollup.specs.Groups.{is_same, firsts}

-- the derived test is that of the order
abbrev by_order : Value → Value → Bool
by_order a b = is_eq (order_of a b)

tells : eq-value.it ≡ by_order
tells = λ i a b. (matches_eq-law a b ∙ ap is_eq (derived a b)) i

pub same_as : pointwise eq-value.it ≡ is_same
same_as = ap pointwise tells

pub laws : IsEquivalence is_same
laws = subst (λ (e : List Value → List Value → Bool). IsEquivalence e) same_as (lists_equiv laws-law)

pub is : (x y : List Value) → is_same x y ≡ true → x ≡ y
is x y h = (slice_eq-Decides values_same x y (is_same x y) (ap (λ (e : List Value → List Value → Bool). e x y) (sym same_as))).0 h

-- a list that is added stands last, or is there
any_less : (key other : List Value) (keys : List (List Value)) → list_any (is_same key) (filter (λ k. not (is_same other k)) keys) ≡ (not (is_same other key) && list_any (is_same key) keys)
any_less key other keys = any-filter_same (is_same key) (λ k. not (is_same other k)) (not (is_same other key)) (λ k h. ap not (laws.symm other k ∙ (sym (laws.congr key k other h) ∙ laws.symm key other))) keys

cases_more : (a key : List Value) (f : List (List Value)) (here there : Bool) → is_same a key ≡ here → list_any (is_same key) f ≡ there
    → a ∷ filter (λ k. not (is_same a k)) (if there then f else f ++ key ∷ [])
    ≡ (if (here || (not here && there)) then a ∷ filter (λ k. not (is_same a k)) f else a ∷ filter (λ k. not (is_same a k)) f ++ key ∷ [])
cases_more a key f true true p q = refl
cases_more a key f false true p q = refl
cases_more a key f true false p q = ap (λ t. a ∷ t) (filter-append (λ k. not (is_same a k)) f (key ∷ []) ∙ (ap (λ b. filter (λ k. not (is_same a k)) f ++ cond (not b) (key ∷ []) []) p ∙ append_nil _))
  where
    append_nil : (l : List (List Value)) → l ++ [] ≡ l
    append_nil [] = refl
    append_nil (x ∷ xs) = ap (λ t. x ∷ t) (append_nil xs)
cases_more a key f false false p q = ap (λ t. a ∷ t) (filter-append (λ k. not (is_same a k)) f (key ∷ []) ∙ ap (λ b. filter (λ k. not (is_same a k)) f ++ cond (not b) (key ∷ []) []) p)

pub firsts_more : (keys : List (List Value)) (key : List Value) → firsts (keys ++ key ∷ []) ≡ insert_key is_same (firsts keys) key
unfolding firsts
firsts_more [] key = refl
firsts_more (a ∷ keys) key =
    let rest = firsts keys in
    ap (λ f. a ∷ filter (λ k. not (is_same a k)) f) (firsts_more keys key)
    ∙ (cases_more a key rest (is_same a key) (list_any (is_same key) rest) refl refl
    ∙ ap (λ b. if b then a ∷ filter (λ k. not (is_same a k)) rest else a ∷ filter (λ k. not (is_same a k)) rest ++ key ∷ [])
    (ap (λ b. b || (not (is_same a key) && list_any (is_same key) rest)) (laws.symm a key) ∙ ap (λ b. is_same key a || b) (sym (any_less key a rest))))

-- the same lists are in it
pub any_firsts : (key : List Value) (keys : List (List Value)) → list_any (is_same key) (firsts keys) ≡ list_any (is_same key) keys
unfolding firsts
any_firsts key [] = refl
any_firsts key (a ∷ keys) =
    ap (λ b. is_same key a || b) (any_less key a (firsts keys) ∙ ap (λ b. not (is_same a key) && b) (any_firsts key keys))
    ∙ (ap (λ b. is_same key a || (not b && list_any (is_same key) keys)) (laws.symm a key) ∙ whole (is_same key a) (list_any (is_same key) keys))
  where
    whole : (b c : Bool) → (b || (not b && c)) ≡ (b || c)
    whole true c = refl
    whole false c = refl

left_false : (a b : Bool) → (a || b) ≡ false → a ≡ false
left_false true b h = h
left_false false b h = refl

right_false : (a b : Bool) → (a || b) ≡ false → b ≡ false
right_false true b h = absurd (true≢false h)
right_false false b h = h

pub none_member : {R : Type 0} (of : R → List Value) (key : List Value) (records : List R) → list_any (is_same key) (map of records) ≡ false → filter (λ r. is_same key (of r)) records ≡ []
none_member of key [] h = refl
none_member of key (r ∷ records) h =
    let e = left_false (is_same key (of r)) (list_any (is_same key) (map of records)) h in
    let f = right_false (is_same key (of r)) (list_any (is_same key) (map of records)) h in
    ap (λ b. cond b (r ∷ filter (λ q. is_same key (of q)) records) (filter (λ q. is_same key (of q)) records)) e ∙ none_member of key records f

-- a change at one key alone
pub map_alike : {C : Type 0} (f g : List Value → C) (key : List Value) (keys : List (List Value)) → ((x : List Value) → is_same x key ≡ false → g x ≡ f x) → AllByRecursion (λ x. is_same key x ≡ false) keys → map g keys ≡ map f keys
map_alike f g key [] alike h = refl
map_alike f g key (x ∷ keys) alike h = λ i. alike x (laws.symm x key ∙ h.0) i ∷ map_alike f g key keys alike h.1 i

pub none_same : (key : List Value) (keys : List (List Value)) → list_any (is_same key) keys ≡ false → AllByRecursion (λ x. is_same key x ≡ false) keys
none_same key [] h = tt
none_same key (x ∷ keys) h = (left_false (is_same key x) _ h, none_same key keys (right_false (is_same key x) _ h))

pub same_some : {A : Type 0} (a b : A) → Some a ≡ Some b → a ≡ b
same_some a b e = ap (λ (o : Option _). unwrap_or o a) e

pub none_some : {A : Type 0} (a : A) → None ≡ Some a → ⊥
none_some a e = true≢false (sym (ap is_some e))

told_at : (a key : List Value) (keys : List (List Value)) (i : ℕ) → AllByRecursion (λ x. is_same a x ≡ false) keys → slice_get keys i ≡ Some key → is_same a key ≡ false
told_at a key [] i all at = absurd (none_some key at)
told_at a key (x ∷ keys) zero all at = ap (is_same a) (sym (same_some x key at)) ∙ all.0
told_at a key (x ∷ keys) (suc i) all at = told_at a key keys i all.1 at

pub map_set : {C : Type 0} (f g : List Value → C) (key : List Value) (keys : List (List Value)) (i : ℕ) → IsDistinct is_same keys → slice_get keys i ≡ Some key → ((x : List Value) → is_same x key ≡ false → g x ≡ f x) → map g keys ≡ slice_set (map f keys) i (g key)
unfolding IsDistinct
map_set f g key [] i distinct at alike = absurd (none_some key at)
map_set f g key (x ∷ keys) zero distinct at alike =
    let e = same_some x key at in
    λ j. g (e j) ∷ map_alike f g key keys alike (subst (λ (y : List Value). AllByRecursion (λ z. is_same y z ≡ false) keys) e distinct.0) j
map_set f g key (x ∷ keys) (suc i) distinct at alike =
    λ j. alike x (told_at x key keys i distinct.0 at) j ∷ map_set f g key keys i distinct.1 at alike j

pub get_some : {A : Type 0} (xs : List A) (i : ℕ) (d : A) → i < length xs → slice_get xs i ≡ Some (get_or xs i d)
get_some [] i d h = absurd (omega (arith, h))
get_some (x ∷ xs) zero d h = refl
get_some (x ∷ xs) (suc i) d h = get_some xs i d (omega arith)

-- where a look-up finds a list of keys
pub found : (keys : List (List Value)) (key : List Value) (r : Option ℕ) → r ≡ position (pointwise eq-value.it key) keys → is_some r ≡ list_any (pointwise eq-value.it key) keys
    → MatchOption r (list_any (is_same key) keys ≡ false) (λ i. (list_any (is_same key) keys ≡ true) × (slice_get keys i ≡ Some key) × (i < length keys))
found keys key None at there = sym (there ∙ ap (λ (e : List Value → List Value → Bool). list_any (e key) keys) same_as)
found keys key (Some i) at there =
    let p = position-Some (pointwise eq-value.it key) keys i key (sym at) in
    let e = is key (get_or keys i key) (ap (λ (e : List Value → List Value → Bool). e key (get_or keys i key)) (sym same_as) ∙ p.1) in
    (sym (there ∙ ap (λ (e : List Value → List Value → Bool). list_any (e key) keys) same_as), get_some keys i key p.0 ∙ ap Some (sym e), p.0)
