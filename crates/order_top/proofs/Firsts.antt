-- First occurrences among rows that come one by one, and among the first n in order.
use Rattle.std.proofs.Common.{◌≡◌, ℕ, zero, suc, Bool, true, false, not, ◌||◌, List, [], ◌∷◌, ◌++◌, take, refl, sym, ◌∙◌, ap, inl, inr, subst}
use Rattle.std.proofs.lemmas.Bool.{cases_Bool, true≢false}
use Rattle.std.proofs.lemmas.List.{append-nil}
use Rattle.std.proofs.lemmas.List.Elements.{filter-append}
use Rattle.std.specs.List.{filter, list_any}
use Rattle.std.specs.Cmp.{IsStrictWeakOrder}
use Rattle.indexmap.specs.IndexSet.{insert_key}
use Rattle.order_top.specs.Lists.{first_occurrences, with_earlier, ordered, with_later}
use Rattle.order_top.proofs.Unique.{AllFrom, Rising}
use Rattle.order_top.proofs.Keeping.{earlier_in, earlier_here, later_in, ordered_more, first_more}
use Rattle.order_top.proofs.Law.{ordered_rises}

module _ {X : Type 0} (same : X → X → Bool) (itself : (x : X) → same x x ≡ true) (told : (x y : X) → same x y ≡ true → x ≡ y) where
  either_way : (x y : X) → same x y ≡ false → same y x ≡ false
  either_way x y e = elim (cases_Bool (same y x)) [
    | inl holds ↦ absurd (true≢false (sym (itself x) ∙ (ap (same x) (sym (told y x holds)) ∙ e)))
    | inr fails ↦ fails
  ]

  kept : (p : X → Bool) (x : X) (xs : List X) → p x ≡ true → filter p (x ∷ xs) ≡ x ∷ filter p xs
  kept p x xs e = rw e refl

  dropped : (p : X → Bool) (x : X) (xs : List X) → p x ≡ false → filter p (x ∷ xs) ≡ filter p xs
  dropped p x xs e = rw e refl

  pub any_kept : (p q : X → Bool) → ((z : X) → q z ≡ true → p z ≡ true) → (xs : List X) → list_any q (filter p xs) ≡ list_any q xs
  any_kept p q both [] = refl
  any_kept p q both (x ∷ xs) = elim (cases_Bool (p x)) [
    | inl holds ↦ ap (list_any q) (kept p x xs holds) ∙ ap (λ (b : Bool). q x || b) (any_kept p q both xs)
    | inr fails ↦ elim (cases_Bool (q x)) [
      | inl qx ↦ absurd (true≢false (sym (both x qx) ∙ fails))
      | inr qx ↦ ap (list_any q) (dropped p x xs fails) ∙ (any_kept p q both xs ∙ sym (ap (λ (b : Bool). b || list_any q xs) qx))
    ]
  ]

  pub known : (ks : List X) (k : X) → list_any (same k) ks ≡ true → insert_key same ks k ≡ ks
  known ks k e = rw e refl

  pub added : (ks : List X) (k : X) → list_any (same k) ks ≡ false → insert_key same ks k ≡ ks ++ k ∷ []
  added ks k e = rw e refl

  -- what passes a test, where the new one doesn't, and where it does
  without_new : (p : X → Bool) (ks : List X) (y : X) → p y ≡ false → filter p (insert_key same ks y) ≡ filter p ks
  without_new p ks y e = elim (cases_Bool (list_any (same y) ks)) [
    | inl holds ↦ ap (filter p) (known ks y holds)
    | inr fails ↦ ap (filter p) (added ks y fails) ∙ (filter-append p ks (y ∷ []) ∙ (ap (λ (l : List X). filter p ks ++ l) (dropped p y [] e) ∙ append-nil (filter p ks)))
  ]

  with_new : (p : X → Bool) (ks : List X) (y : X) → p y ≡ true → filter p (insert_key same ks y) ≡ insert_key same (filter p ks) y
  with_new p ks y e =
      let alike : list_any (same y) (filter p ks) ≡ list_any (same y) ks = any_kept p (same y) (λ z yz. subst (λ (w : X). p w ≡ true) (told y z yz) e) ks in
      elim (cases_Bool (list_any (same y) ks)) [
        | inl holds ↦ ap (filter p) (known ks y holds) ∙ sym (known (filter p ks) y (alike ∙ holds))
        | inr fails ↦ ap (filter p) (added ks y fails) ∙ (filter-append p ks (y ∷ []) ∙ (ap (λ (l : List X). filter p ks ++ l) (kept p y [] e) ∙ sym (added (filter p ks) y (alike ∙ fails))))
      ]

  other : X → X → Bool
  other x y = not (same x y)

  head_differs : (x y : X) (ks : List X) → same y x ≡ false → x ∷ insert_key same ks y ≡ insert_key same (x ∷ ks) y
  head_differs x y ks e = elim (cases_Bool (list_any (same y) ks)) [
    | inl holds ↦ ap (λ (l : List X). x ∷ l) (known ks y holds) ∙ sym (known (x ∷ ks) y (ap (λ (b : Bool). b || list_any (same y) ks) e ∙ holds))
    | inr fails ↦ ap (λ (l : List X). x ∷ l) (added ks y fails) ∙ sym (added (x ∷ ks) y (ap (λ (b : Bool). b || list_any (same y) ks) e ∙ fails))
  ]

  head_same : (x y : X) (ks : List X) → same y x ≡ true → insert_key same (x ∷ ks) y ≡ x ∷ ks
  head_same x y ks e = known (x ∷ ks) y (ap (λ (b : Bool). b || list_any (same y) ks) e)

  -- first occurrences of the rows and one more
  pub firsts_more : (xs : List X) (y : X) → first_occurrences same (xs ++ y ∷ []) ≡ insert_key same (first_occurrences same xs) y
  firsts_more [] y = refl
  firsts_more (x ∷ xs) y =
      ap (λ (l : List X). x ∷ filter (λ z. not (same x z)) l) (firsts_more xs y) ∙ elim (cases_Bool (same x y)) [
        | inl holds ↦ ap (λ (l : List X). x ∷ l) (without_new (λ z. not (same x z)) (first_occurrences same xs) y (ap not holds)) ∙ sym (head_same x y (filter (λ z. not (same x z)) (first_occurrences same xs)) (subst (λ (w : X). same w x ≡ true) (told x y holds) (itself x)))
        | inr fails ↦ ap (λ (l : List X). x ∷ l) (with_new (λ z. not (same x z)) (first_occurrences same xs) y (ap not fails)) ∙ head_differs x y (filter (λ z. not (same x z)) (first_occurrences same xs)) (either_way x y fails)
      ]

  any_first : (p : X → Bool) (n : ℕ) (xs : List X) → list_any p xs ≡ false → list_any p (take n xs) ≡ false
  any_first p zero xs e = refl
  any_first p (suc n) [] e = refl
  any_first p (suc n) (x ∷ xs) e = elim (cases_Bool (p x)) [
    | inl holds ↦ absurd (true≢false (sym (ap (λ (b : Bool). b || list_any p xs) holds) ∙ e))
    | inr fails ↦ ap (λ (b : Bool). b || list_any p (take n xs)) fails ∙ any_first p n xs (sym (ap (λ (b : Bool). b || list_any p xs) fails) ∙ e)
  ]

  module _ (lt : X → X → Bool) (o : IsStrictWeakOrder lt) where
    swapped : (a b c : Bool) → (a || (b || c)) ≡ (b || (a || c))
    swapped true true c = refl
    swapped true false c = refl
    swapped false true c = refl
    swapped false false c = refl

    any_earlier : (p : X → Bool) (x : X) (ys : List X) → list_any p (with_earlier lt x ys) ≡ (p x || list_any p ys)
    any_earlier p x [] = refl
    any_earlier p x (y ∷ ys) = elim (cases_Bool (lt y x)) [
      | inl holds ↦ ap (list_any p) (earlier_in lt o x y ys holds) ∙ (ap (λ (b : Bool). p y || b) (any_earlier p x ys) ∙ swapped (p y) (p x) (list_any p ys))
      | inr fails ↦ ap (list_any p) (earlier_here lt o x y ys fails)
    ]

    any_ordered : (p : X → Bool) (xs : List X) → list_any p (ordered lt xs) ≡ list_any p xs
    any_ordered p [] = refl
    any_ordered p (x ∷ xs) = any_earlier p x (ordered lt xs) ∙ ap (λ (b : Bool). p x || b) (any_ordered p xs)

    -- what stands further on doesn't precede
    no_less : (y w : X) (ws : List X) → AllFrom lt o w ws → list_any (same y) ws ≡ true → lt y w ≡ false
    no_less y w [] all e = absurd (true≢false (sym e))
    no_less y w (v ∷ vs) all e = elim (cases_Bool (same y v)) [
      | inl holds ↦ subst (λ (u : X). lt u w ≡ false) (sym (told y v holds)) all.0
      | inr fails ↦ no_less y w vs all.1 (sym (ap (λ (b : Bool). b || list_any (same y) vs) fails) ∙ e)
    ]

    -- a row that stands behind the first n is behind them again
    behind_again : (n : ℕ) (y : X) (l : List X) → Rising lt o l → list_any (same y) l ≡ true → list_any (same y) (take n l) ≡ false → take n (with_later lt y (take n l)) ≡ take n l
    behind_again zero y l up in_all out = refl
    behind_again (suc n) y [] up in_all out = absurd (true≢false (sym in_all))
    behind_again (suc n) y (w ∷ ws) up in_all out = elim (cases_Bool (same y w)) [
      | inl holds ↦ absurd (true≢false (sym (ap (λ (b : Bool). b || list_any (same y) (take n ws)) holds) ∙ out))
      | inr fails ↦
          let rest : list_any (same y) ws ≡ true = sym (ap (λ (b : Bool). b || list_any (same y) ws) fails) ∙ in_all in
          let none : list_any (same y) (take n ws) ≡ false = sym (ap (λ (b : Bool). b || list_any (same y) (take n ws)) fails) ∙ out in
          ap (take (suc n)) (later_in lt o y w (take n ws) (no_less y w ws up.0 rest)) ∙ ap (λ (l : List X). w ∷ l) (behind_again n y ws up.1 rest none)
    ]

    abbrev pub first_distinct : ℕ → List X → List X
    first_distinct n xs = take n (ordered lt (first_occurrences same xs))

    -- the first n distinct ones with one more that is among them
    pub distinct_known : (n : ℕ) (xs : List X) (y : X) → list_any (same y) (first_distinct n xs) ≡ true → first_distinct n (xs ++ y ∷ []) ≡ first_distinct n xs
    distinct_known n xs y e =
        let firsts = first_occurrences same xs in
        elim (cases_Bool (list_any (same y) firsts)) [
          | inl holds ↦ ap (λ (l : List X). take n (ordered lt l)) (firsts_more xs y ∙ known firsts y holds)
          | inr fails ↦ absurd (true≢false (sym e ∙ any_first (same y) n (ordered lt firsts) (any_ordered (same y) firsts ∙ fails)))
        ]

    -- and with one more that isn't
    pub distinct_more : (n : ℕ) (xs : List X) (y : X) → list_any (same y) (first_distinct n xs) ≡ false → first_distinct n (xs ++ y ∷ []) ≡ take n (with_later lt y (first_distinct n xs))
    distinct_more n xs y e =
        let firsts = first_occurrences same xs in
        elim (cases_Bool (list_any (same y) firsts)) [
          | inl holds ↦ ap (λ (l : List X). take n (ordered lt l)) (firsts_more xs y ∙ known firsts y holds) ∙ sym (behind_again n y (ordered lt firsts) (ordered_rises lt o firsts) (any_ordered (same y) firsts ∙ holds) e)
          | inr fails ↦ ap (λ (l : List X). take n (ordered lt l)) (firsts_more xs y ∙ added firsts y fails) ∙ (ap (take n) (ordered_more lt o firsts y) ∙ sym (first_more lt o n y (ordered lt firsts)))
        ]
