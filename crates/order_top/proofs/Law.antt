-- `ordered` is the one ordering.
use Rattle.std.proofs.Common.{◌≡◌, ℕ, zero, suc, ◌<◌, Bool, true, false, not, ◌&&◌, List, [], ◌∷◌, length, refl, sym, ◌∙◌, ap, inl, inr, arith, add-one}
use Rattle.std.proofs.lemmas.Bool.{cases_Bool, true≢false}
use Rattle.std.specs.List.{filter, slice_index_or}
use Rattle.std.specs.List.Sorted.{IsSortedBy, IsStableBy, ties}
use Rattle.std.specs.Cmp.{IsStrictWeakOrder}
use Rattle.order_top.specs.Lists.{with_earlier, ordered}
use Rattle.order_top.proofs.Unique.{AllFrom, Rising, keeps, drops, unique}
use Rattle.order_top.proofs.Keeping.{earlier_in, earlier_here}

module _ {X : Type 0} (lt : X → X → Bool) (o : IsStrictWeakOrder lt) where
  from_all : (w x : X) (ys : List X) → lt x w ≡ false → AllFrom lt o w ys → AllFrom lt o w (with_earlier lt x ys)
  from_all w x [] e all = (e, tt)
  from_all w x (y ∷ ys) e all = elim (cases_Bool (lt y x)) [
    | inl holds ↦ rw (earlier_in lt o x y ys holds) (all.0, from_all w x ys e all.1)
    | inr fails ↦ rw (earlier_here lt o x y ys fails) (e, all)
  ]

  through : (x w : X) (ws : List X) → lt w x ≡ false → AllFrom lt o w ws → AllFrom lt o x ws
  through x w [] e all = tt
  through x w (v ∷ vs) e all = (o.chain v w x all.0 e, through x w vs e all.1)

  stays_rising : (x : X) (ys : List X) → Rising lt o ys → Rising lt o (with_earlier lt x ys)
  stays_rising x [] up = (tt, tt)
  stays_rising x (y ∷ ys) up = elim (cases_Bool (lt y x)) [
    | inl holds ↦ rw (earlier_in lt o x y ys holds) (from_all y x ys (o.one_way y x holds) up.0, stays_rising x ys up.1)
    | inr fails ↦ rw (earlier_here lt o x y ys fails) ((fails, through x y ys fails up.0), up)
  ]

  pub ordered_rises : (xs : List X) → Rising lt o (ordered lt xs)
  ordered_rises [] = tt
  ordered_rises (x ∷ xs) = stays_rising x (ordered lt xs) (ordered_rises xs)

  next_no_less : (y : X) (ys : List X) → AllFrom lt o y ys → (d : X) → 0 < length ys → lt (slice_index_or ys 0 d) y ≡ false
  next_no_less y [] all d h = absurd (omega arith)
  next_no_less y (w ∷ ws) all d h = all.0

  sorted_at : (ys : List X) → Rising lt o ys → (k : ℕ) (d : X) → suc k < length ys → lt (slice_index_or ys (suc k) d) (slice_index_or ys k d) ≡ false
  sorted_at [] up k d h = absurd (omega arith)
  sorted_at (y ∷ ys) up zero d h = next_no_less y ys up.0 d (omega arith)
  sorted_at (y ∷ ys) up (suc k) d h = sorted_at ys up.1 k d (omega arith)

  pub ordered_sorted : (xs : List X) → IsSortedBy lt (ordered lt xs)
  ordered_sorted xs = λ k d low h. simp add-one (sorted_at (ordered lt xs) (ordered_rises xs) k d (omega arith))

  no_less : (p q : Bool) → (not p && not q) ≡ true → p ≡ false
  no_less true q e = sym e
  no_less false q e = refl

  second_less : (p q : Bool) → q ≡ true → (not p && not q) ≡ false
  second_less true q e = refl
  second_less false true e = refl
  second_less false false e = sym e

  after : (z w : X) (us vs : List X) → filter (ties lt z) us ≡ filter (ties lt z) vs → filter (ties lt z) (w ∷ us) ≡ filter (ties lt z) (w ∷ vs)
  after z w us vs e = elim (cases_Bool (ties lt z w)) [
    | inl holds ↦ keeps lt o (ties lt z) w us holds ∙ (ap (λ (l : List X). w ∷ l) e ∙ sym (keeps lt o (ties lt z) w vs holds))
    | inr fails ↦ drops lt o (ties lt z) w us fails ∙ (e ∙ sym (drops lt o (ties lt z) w vs fails))
  ]

  -- of two in order the first doesn't tie with what ties with the second
  apart : (z w x : X) → lt w x ≡ true → ties lt z x ≡ true → ties lt z w ≡ false
  apart z w x wx zx = elim (cases_Bool (lt w z)) [
    | inl wz ↦ second_less (lt z w) (lt w z) wz
    | inr wz ↦ absurd (true≢false (sym wx ∙ o.chain w z x wz (no_less (lt z x) (lt x z) zx)))
  ]

  tie_kept : (z x : X) (ys : List X) → filter (ties lt z) (with_earlier lt x ys) ≡ filter (ties lt z) (x ∷ ys)
  tie_kept z x [] = refl
  tie_kept z x (w ∷ ws) = elim (cases_Bool (lt w x)) [
    | inr fails ↦ ap (filter (ties lt z)) (earlier_here lt o x w ws fails)
    | inl holds ↦ ap (filter (ties lt z)) (earlier_in lt o x w ws holds) ∙ elim (cases_Bool (ties lt z x)) [
      | inl zx ↦ drops lt o (ties lt z) w (with_earlier lt x ws) (apart z w x holds zx) ∙ (tie_kept z x ws ∙ (keeps lt o (ties lt z) x ws zx ∙ (ap (λ (l : List X). x ∷ l) (sym (drops lt o (ties lt z) w ws (apart z w x holds zx))) ∙ sym (keeps lt o (ties lt z) x (w ∷ ws) zx))))
      | inr zx ↦ after z w (with_earlier lt x ws) ws (tie_kept z x ws ∙ drops lt o (ties lt z) x ws zx) ∙ sym (drops lt o (ties lt z) x (w ∷ ws) zx)
    ]
  ]

  pub ordered_stable : (xs : List X) → IsStableBy lt xs (ordered lt xs)
  ordered_stable [] = λ z. refl
  ordered_stable (x ∷ xs) = λ z. tie_kept z x (ordered lt xs) ∙ after z x (ordered lt xs) xs (ordered_stable xs z)

  -- an ordering is `ordered`
  pub one_ordering : (xs ys : List X) → IsSortedBy lt ys → IsStableBy lt xs ys → ys ≡ ordered lt xs
  one_ordering xs ys up stays = unique lt o ys (ordered lt xs) up (ordered_sorted xs) (λ z. stays z ∙ sym (ordered_stable xs z))
