-- Rows that come one by one: what is kept of them is told by what was kept before.
use Rattle.std.proofs.Common.{◌≡◌, ℕ, zero, suc, Bool, true, false, List, [], ◌∷◌, ◌++◌, take, refl, sym, ◌∙◌, ap, inl, inr}
use Rattle.std.proofs.lemmas.Bool.{cases_Bool, true≢false}
use Rattle.std.specs.Cmp.{IsStrictWeakOrder}
use Rattle.order_top.specs.Lists.{with_earlier, ordered, with_later}

module _ {X : Type 0} (lt : X → X → Bool) (o : IsStrictWeakOrder lt) where
  -- one way
  before : (x y z : X) → lt x y ≡ true → lt y z ≡ true → lt x z ≡ true
  before x y z p q = elim (cases_Bool (lt x z)) [
    | inl holds ↦ holds
    | inr fails ↦ absurd (true≢false (sym p ∙ o.chain x z y fails (o.one_way y z q)))
  ]

  pub earlier_in : (x w : X) (ws : List X) → lt w x ≡ true → with_earlier lt x (w ∷ ws) ≡ w ∷ with_earlier lt x ws
  earlier_in x w ws e = rw e refl

  pub earlier_here : (x w : X) (ws : List X) → lt w x ≡ false → with_earlier lt x (w ∷ ws) ≡ x ∷ w ∷ ws
  earlier_here x w ws e = rw e refl

  pub later_here : (y w : X) (ws : List X) → lt y w ≡ true → with_later lt y (w ∷ ws) ≡ y ∷ w ∷ ws
  later_here y w ws e = rw e refl

  pub later_in : (y w : X) (ws : List X) → lt y w ≡ false → with_later lt y (w ∷ ws) ≡ w ∷ with_later lt y ws
  later_in y w ws e = rw e refl

  -- an earlier one and a later one may be put in either order
  either_order : (x y : X) (l : List X) → with_earlier lt x (with_later lt y l) ≡ with_later lt y (with_earlier lt x l)
  either_order x y [] = elim (cases_Bool (lt y x)) [
    | inl holds ↦ earlier_in x y [] holds ∙ sym (later_here y x [] holds)
    | inr fails ↦ earlier_here x y [] fails ∙ sym (later_in y x [] fails)
  ]
  either_order x y (w ∷ ws) = elim (cases_Bool (lt w x)) [
    | inl wx ↦ elim (cases_Bool (lt y w)) [
      | inl yw ↦ ap (with_earlier lt x) (later_here y w ws yw) ∙ (earlier_in x y (w ∷ ws) (before y w x yw wx) ∙ (ap (λ (l : List X). y ∷ l) (earlier_in x w ws wx) ∙ (sym (later_here y w (with_earlier lt x ws) yw) ∙ ap (with_later lt y) (sym (earlier_in x w ws wx)))))
      | inr yw ↦ ap (with_earlier lt x) (later_in y w ws yw) ∙ (earlier_in x w (with_later lt y ws) wx ∙ (ap (λ (l : List X). w ∷ l) (either_order x y ws) ∙ (sym (later_in y w (with_earlier lt x ws) yw) ∙ ap (with_later lt y) (sym (earlier_in x w ws wx)))))
    ]
    | inr wx ↦ elim (cases_Bool (lt y w)) [
      | inl yw ↦ elim (cases_Bool (lt y x)) [
        | inl yx ↦ ap (with_earlier lt x) (later_here y w ws yw) ∙ (earlier_in x y (w ∷ ws) yx ∙ (ap (λ (l : List X). y ∷ l) (earlier_here x w ws wx) ∙ (sym (later_here y x (w ∷ ws) yx) ∙ ap (with_later lt y) (sym (earlier_here x w ws wx)))))
        | inr yx ↦ ap (with_earlier lt x) (later_here y w ws yw) ∙ (earlier_here x y (w ∷ ws) yx ∙ (ap (λ (l : List X). x ∷ l) (sym (later_here y w ws yw)) ∙ (sym (later_in y x (w ∷ ws) yx) ∙ ap (with_later lt y) (sym (earlier_here x w ws wx)))))
      ]
      | inr yw ↦ ap (with_earlier lt x) (later_in y w ws yw) ∙ (earlier_here x w (with_later lt y ws) wx ∙ (ap (λ (l : List X). x ∷ l) (sym (later_in y w ws yw)) ∙ (sym (later_in y x (w ∷ ws) (o.chain y w x yw wx)) ∙ ap (with_later lt y) (sym (earlier_here x w ws wx)))))
    ]
  ]

  -- the order of the rows and one more
  pub ordered_more : (xs : List X) (y : X) → ordered lt (xs ++ y ∷ []) ≡ with_later lt y (ordered lt xs)
  ordered_more [] y = refl
  ordered_more (x ∷ xs) y = ap (with_earlier lt x) (ordered_more xs y) ∙ either_order x y (ordered lt xs)

  -- so of the first one less
  shorter : (n : ℕ) (w : X) (ws : List X) → take n (w ∷ take n ws) ≡ take n (w ∷ ws)
  shorter zero w ws = refl
  shorter (suc n) w [] = refl
  shorter (suc n) w (v ∷ vs) = ap (λ (l : List X). w ∷ l) (shorter n v vs)

  -- the first n decide of the first n
  pub first_more : (n : ℕ) (y : X) (l : List X) → take n (with_later lt y (take n l)) ≡ take n (with_later lt y l)
  first_more zero y l = refl
  first_more (suc n) y [] = refl
  first_more (suc n) y (w ∷ ws) = elim (cases_Bool (lt y w)) [
    | inl yw ↦ ap (take (suc n)) (later_here y w (take n ws) yw) ∙ (ap (λ (l : List X). y ∷ l) (shorter n w ws) ∙ sym (ap (take (suc n)) (later_here y w ws yw)))
    | inr yw ↦ ap (take (suc n)) (later_in y w (take n ws) yw) ∙ (ap (λ (l : List X). w ∷ l) (first_more n y ws) ∙ sym (ap (take (suc n)) (later_in y w ws yw)))
  ]
