-- A set goes along with a list of rows that differ.
use Rattle.std.proofs.Common.{◌≡◌, ◌<◌, is_some, arith, ℕ, Bool, true, false, ◌||◌, List, [], ◌∷◌, ◌++◌, length, if◌then◌else◌, Option, Some, None, refl, sym, ◌∙◌, ap, inl, inr, subst}
use Rattle.std.proofs.lemmas.Bool.{cases_Bool, true≢false}
use Rattle.std.proofs.lemmas.List.{append-nil}
use Rattle.std.proofs.lemmas.List.Elements.{filter-append}
use Rattle.std.proofs.lemmas.List.Folds.{list_any-append}
use Rattle.std.proofs.lemmas.List.{length-append}
use Rattle.std.specs.List.{filter, list_any}
use Rattle.std.specs.Cmp.Lexicographic.{pointwise}
use Rattle.lp_values.specs.contracts.value.ValuePartialEq.TheImpl.{eq-value}
use Rattle.std.specs.Option.{option_to_list}
use Rattle.indexmap.specs.IndexSet.{insert_key}
use Rattle.order_top.specs.Finish.{Row, same_row}
use Rattle.order_top.specs.Lists.{with_later}
use Rattle.order_top.specs.Mirrors.{Mirrors, is_gone}
use Rattle.order_top.proofs.Values.{row_itself, row_told, same_is}

other_way : (x y : Row) → same_row x y ≡ true → same_row y x ≡ true
other_way x y e = subst (λ (w : Row). same_row w x ≡ true) (row_told x y e) (row_itself x)

other_not : (x y : Row) → same_row x y ≡ false → same_row y x ≡ false
other_not x y e = elim (cases_Bool (same_row y x)) [
  | inl holds ↦ absurd (true≢false (sym (other_way y x holds) ∙ e))
  | inr fails ↦ fails
]

kept : (p : Row → Bool) (x : Row) (xs : List Row) → p x ≡ true → filter p (x ∷ xs) ≡ x ∷ filter p xs
kept p x xs e = rw e refl

dropped : (p : Row → Bool) (x : Row) (xs : List Row) → p x ≡ false → filter p (x ∷ xs) ≡ filter p xs
dropped p x xs e = rw e refl

abbrev once : Bool → Row → List Row
once b q = if b then q ∷ [] else []

left_one : (x : Row) (xs : List Row) (b : Bool) (q : Row) → x ∷ xs ≡ once b q → true ≡ b
left_one x xs true q e = refl
left_one x xs false q e = cc e

none_left : (xs : List Row) (g : Row) (b : Bool) (q : Row) → xs ++ g ∷ [] ≡ once b q → xs ≡ []
none_left [] g b q e = refl
none_left (x ∷ []) g true q e = cc e
none_left (x ∷ []) g false q e = cc e
none_left (x ∷ y ∷ xs) g true q e = cc e
none_left (x ∷ y ∷ xs) g false q e = cc e

turned : (a b : Bool) → (a || (b || false)) ≡ (b || a)
turned true true = refl
turned true false = refl
turned false true = refl
turned false false = refl

added : (ks : List Row) (k : Row) → list_any (same_row k) ks ≡ false → insert_key same_row ks k ≡ ks ++ k ∷ []
added ks k e = rw e refl

-- a list has an element that passes where something is left by the filter
pub any_by : (q : Row) (rows : List Row) (b : Bool) → filter (same_row q) rows ≡ once b q → list_any (same_row q) rows ≡ b
any_by q [] true e = cc e
any_by q [] false e = refl
any_by q (x ∷ xs) b e = elim (cases_Bool (same_row q x)) [
  | inl holds ↦ ap (λ (a : Bool). a || list_any (same_row q) xs) holds ∙ left_one x (filter (same_row q) xs) b q (sym (kept (same_row q) x xs holds) ∙ e)
  | inr fails ↦ ap (λ (a : Bool). a || list_any (same_row q) xs) fails ∙ any_by q xs b (sym (dropped (same_row q) x xs fails) ∙ e)
]

module _ (lt : Row → Row → Bool) where
  later_here : (y w : Row) (ws : List Row) → lt y w ≡ true → with_later lt y (w ∷ ws) ≡ y ∷ w ∷ ws
  later_here y w ws e = rw e refl

  later_in : (y w : Row) (ws : List Row) → lt y w ≡ false → with_later lt y (w ∷ ws) ≡ w ∷ with_later lt y ws
  later_in y w ws e = rw e refl

  -- what a test leaves of rows and one more that it doesn't hold of
  without_one : (p : Row → Bool) (y : Row) (l : List Row) → p y ≡ false → filter p (with_later lt y l) ≡ filter p l
  without_one p y [] e = dropped p y [] e
  without_one p y (w ∷ ws) e = elim (cases_Bool (lt y w)) [
    | inl holds ↦ ap (filter p) (later_here y w ws holds) ∙ dropped p y (w ∷ ws) e
    | inr fails ↦ ap (filter p) (later_in y w ws fails) ∙ elim (cases_Bool (p w)) [
      | inl pw ↦ kept p w (with_later lt y ws) pw ∙ (ap (λ (l : List Row). w ∷ l) (without_one p y ws e) ∙ sym (kept p w ws pw))
      | inr pw ↦ dropped p w (with_later lt y ws) pw ∙ (without_one p y ws e ∙ sym (dropped p w ws pw))
    ]
  ]

  -- and of one more that it alone holds of
  with_one : (p : Row → Bool) (y : Row) (l : List Row) → p y ≡ true → filter p l ≡ [] → filter p (with_later lt y l) ≡ y ∷ []
  with_one p y [] e none = kept p y [] e
  with_one p y (w ∷ ws) e none = elim (cases_Bool (lt y w)) [
    | inl holds ↦ ap (filter p) (later_here y w ws holds) ∙ (kept p y (w ∷ ws) e ∙ ap (λ (l : List Row). y ∷ l) none)
    | inr fails ↦ ap (filter p) (later_in y w ws fails) ∙ elim (cases_Bool (p w)) [
      | inl pw ↦ cc (sym (kept p w ws pw) ∙ none)
      | inr pw ↦ dropped p w (with_later lt y ws) pw ∙ with_one p y ws e (sym (dropped p w ws pw) ∙ none)
    ]
  ]

  module _ (set rows : List Row) (row : Row) (mirrors : Mirrors set rows) (new : list_any (same_row row) set ≡ false) where
    abbrev more : Row → Bool
    more q = same_row q row || list_any (same_row q) set

    -- the set and the list with one more
    pub mirrors_more : (q : Row) → filter (same_row q) (with_later lt row rows) ≡ once (more q) q
    mirrors_more q = elim (cases_Bool (same_row q row)) [
      | inl holds ↦
          let is : q ≡ row = row_told q row holds in
          with_one (same_row q) row rows holds (mirrors q ∙ ap (λ (b : Bool). once b q) (ap (λ (w : Row). list_any (same_row w) set) is ∙ new))
          ∙ (ap (λ (w : Row). w ∷ []) (sym is) ∙ sym (ap (λ (b : Bool). once (b || list_any (same_row q) set) q) holds))
      | inr fails ↦ without_one (same_row q) row rows fails ∙ (mirrors q ∙ sym (ap (λ (b : Bool). once (b || list_any (same_row q) set) q) fails))
    ]

    -- and without the one that goes
    pub mirrors_without : (rows' : List Row) (gone' : Option Row) → with_later lt row rows ≡ rows' ++ option_to_list gone' → (set' : List Row) →
        ((q : Row) → list_any (same_row q) set' ≡ (if is_gone gone' q then false else more q)) → Mirrors set' rows'
    mirrors_without rows' None e set' left q =
        ap (filter (same_row q)) (sym (e ∙ append-nil rows')) ∙ (mirrors_more q ∙ ap (λ (b : Bool). once b q) (sym (left q)))
    mirrors_without rows' (Some g) e set' left q =
        let parts : filter (same_row q) rows' ++ filter (same_row q) (g ∷ []) ≡ once (more q) q =
        sym (filter-append (same_row q) rows' (g ∷ [])) ∙ (ap (filter (same_row q)) (sym e) ∙ mirrors_more q) in
        elim (cases_Bool (same_row g q)) [
          | inl holds ↦
              let all : filter (same_row q) rows' ++ g ∷ [] ≡ once (more q) q = ap (λ (l : List Row). filter (same_row q) rows' ++ l) (sym (kept (same_row q) g [] (other_way g q holds))) ∙ parts in
              none_left (filter (same_row q) rows') g (more q) q all ∙ sym (ap (λ (b : Bool). once b q) (left q ∙ ap (λ (b : Bool). if b then false else more q) holds))
          | inr fails ↦
              let all : filter (same_row q) rows' ≡ once (more q) q = sym (append-nil (filter (same_row q) rows')) ∙ (ap (λ (l : List Row). filter (same_row q) rows' ++ l) (sym (dropped (same_row q) g [] (other_not g q fails))) ∙ parts) in
              all ∙ sym (ap (λ (b : Bool). once b q) (left q ∙ ap (λ (b : Bool). if b then false else more q) fails))
        ]

-- a set with one more
pub any_more : (set : List Row) (row : Row) → list_any (same_row row) set ≡ false → (set' : List Row) → set' ≡ insert_key same_row set row → (q : Row) → list_any (same_row q) set' ≡ (same_row q row || list_any (same_row q) set)
any_more set row new set' put q = ap (list_any (same_row q)) (put ∙ added set row new) ∙ (list_any-append (same_row q) set (row ∷ []) ∙ turned (list_any (same_row q) set) (same_row q row))

-- what a set has by the derived equality
pub any_same : (q : Row) (set : List Row) → list_any (pointwise eq-value.it q) set ≡ list_any (same_row q) set
any_same q set = ap (λ (E : Row → Row → Bool). list_any (E q) set) same_is

pub put_same : (set : List Row) (row : Row) → insert_key (pointwise eq-value.it) set row ≡ insert_key same_row set row
put_same set row = ap (λ (E : Row → Row → Bool). insert_key E set row) same_is

tails : (u v : Row) (us vs : List Row) → u ∷ us ≡ v ∷ vs → us ≡ vs
tails u v us vs e = cc e

firsts : (u v : Row) (us vs : List Row) → u ∷ us ≡ v ∷ vs → u ≡ v
firsts u v us vs e = cc e

last_cut : (xs ys : List Row) (x y : Row) → xs ++ x ∷ [] ≡ ys ++ y ∷ [] → xs ≡ ys
last_cut [] [] x y e = refl
last_cut [] (v ∷ []) x y e = cc e
last_cut [] (v ∷ w ∷ ws) x y e = cc e
last_cut (u ∷ []) [] x y e = cc e
last_cut (u ∷ t ∷ us) [] x y e = cc e
last_cut (u ∷ us) (v ∷ vs) x y e = ap (λ (w : Row). w ∷ us) (firsts u v (us ++ x ∷ []) (vs ++ y ∷ []) e) ∙ ap (λ (l : List Row). v ∷ l) (last_cut us vs x y (tails u v (us ++ x ∷ []) (vs ++ y ∷ []) e))

-- and without it again
pub popped : (set : List Row) (row : Row) → list_any (same_row row) set ≡ false → (set' : List Row) → set' ≡ insert_key same_row set row → (left : List Row) (out : Option Row) → set' ≡ left ++ option_to_list out → (0 < length set' → is_some out ≡ true) → left ≡ set
popped set row new set' put left (Some out) e some = last_cut left set out row (sym e ∙ (put ∙ added set row new))
popped set row new set' put left None e some =
    let there : 0 < length set' = subst (λ (n : ℕ). 0 < n) (sym (ap length (put ∙ added set row new) ∙ length-append set (row ∷ []))) (omega arith) in
    absurd (true≢false (sym (some there)))

pub forgotten : (q : Row) (told : Option Row) (gone' : Row) → told ≡ Some gone' → (set set' : List Row) → list_any (pointwise eq-value.it q) set' ≡ (if pointwise eq-value.it gone' q then false else list_any (pointwise eq-value.it q) set) → list_any (same_row q) set' ≡ (if is_gone told q then false else list_any (same_row q) set)
forgotten q told gone' is set set' e =
    sym (any_same q set') ∙ (e
    ∙ (ap (λ (E : Row → Row → Bool). if E gone' q then false else list_any (E q) set) same_is
    ∙ ap (λ (o : Option Row). if is_gone o q then false else list_any (same_row q) set) (sym is)))
