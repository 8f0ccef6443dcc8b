-- A row put among the ranked ones goes behind those that it doesn't precede.
use Rattle.std.proofs.Common.{◌≡◌, ◌<◌, ◌+◌, ℕ, zero, suc, Bool, true, false, List, [], ◌∷◌, take, refl, sym, ◌∙◌, ap, inl, inr, arith, rules}
use Rattle.std.proofs.lemmas.Bool.{cases_Bool, true≢false}
use Rattle.std.proofs.lemmas.Bool.Decides.{nat_tests}
use Rattle.std.specs.declared.cmp.Ordering.{Ordering}
use Rattle.std.specs.declared.cmp.Ordering.TheVariants.{Less, Equal, Greater}
use Rattle.std.specs.Ordering.{nat_cmp, ordering_then, is_lt, match_ordering}
use Rattle.std.specs.Cmp.Lexicographic.{slice_cmp}
use Rattle.std.specs.Map.{values_of}
use Rattle.std.specs.BTreeMap.{insert_entry}
use Rattle.lp_values.specs.contracts.value.ValueOrd.TheImpl.{cmp-value}
use Rattle.lp_values.specs.declared.value.Value.{Value}
use Rattle.lp_values.specs.Order.{order_of}
use Rattle.order_top.proofs.Values.{order_is}
use Rattle.order_top.specs.contracts.rank.RankOrd.TheImpl as ranks
use Rattle.order_top.specs.declared.rank.Rank.{Rank}
use Rattle.order_top.specs.Finish.{Row, Finish, keys_at, key_order, precedes}
use Rattle.order_top.specs.Lists.{with_later}
use Rattle.order_top.specs.Ranks.{rank_of, IsRanked, AreRanked}

abbrev compared_by : ((Value → Value → Ordering)) → Bool → List Value → List Value → Ordering
compared_by R false a b = slice_cmp R a b
compared_by R true a b = slice_cmp R b a

rank_by_values : (descending : Bool) (a b : List Value) (p q : ℕ) → ranks.cmp-value.it (rank_of descending a p) (rank_of descending b q) ≡ ordering_then (compared_by cmp-value.it descending a b) (nat_cmp p q)
rank_by_values false a b p q = search (rules)
rank_by_values true a b p q = search (rules)

by_order : (descending : Bool) (a b : List Value) → compared_by order_of descending a b ≡ key_order descending a b
by_order false a b = refl
by_order true a b = refl

pub rank_compared : (descending : Bool) (a b : List Value) (p q : ℕ) → ranks.cmp-value.it (rank_of descending a p) (rank_of descending b q) ≡ ordering_then (key_order descending a b) (nat_cmp p q)
rank_compared descending a b p q =
    rank_by_values descending a b p q
    ∙ (ap (λ (R : Value → Value → Ordering). ordering_then (compared_by R descending a b) (nat_cmp p q)) order_is
    ∙ ap (λ (o : Ordering). ordering_then o (nat_cmp p q)) (by_order descending a b))

greater : (p q : ℕ) → q < p → nat_cmp p q ≡ Greater
greater p q h = grind (arith, nat_tests)

decided_less : (o : Ordering) → is_lt o ≡ true → ordering_then o Greater ≡ Less
decided_less Less e = refl
decided_less Equal e = absurd (true≢false (sym e))
decided_less Greater e = absurd (true≢false (sym e))

decided_more : (o : Ordering) → is_lt o ≡ false → ordering_then o Greater ≡ Greater
decided_more Less e = absurd (true≢false e)
decided_more Equal e = refl
decided_more Greater e = refl

module _ (finish : Finish) (next : ℕ) (row : Row) where
  abbrev new_rank : Rank
  new_rank = rank_of finish.descending (keys_at finish.columns row) next

  abbrev pub with_row : List (Rank × Row) → List (Rank × Row)
  with_row entries = insert_entry ranks.cmp-value.it entries (rank_of finish.descending (keys_at finish.columns row) next) row

  stands : (e : Rank × Row) → IsRanked finish.columns finish.descending next e → ranks.cmp-value.it new_rank e.0 ≡ ordering_then (key_order finish.descending (keys_at finish.columns row) (keys_at finish.columns e.1)) Greater
  stands e ranked =
      ap (ranks.cmp-value.it new_rank) ranked.0
      ∙ (rank_compared finish.descending (keys_at finish.columns row) (keys_at finish.columns e.1) next e.0.place
      ∙ ap (ordering_then (key_order finish.descending (keys_at finish.columns row) (keys_at finish.columns e.1))) (greater next e.0.place ranked.1))

  less : (e : Rank × Row) (es : List (Rank × Row)) → ranks.cmp-value.it new_rank e.0 ≡ Less → with_row (e ∷ es) ≡ (new_rank, row) ∷ e ∷ es
  less e es h = ap (λ (o : Ordering). match_ordering o ((new_rank, row) ∷ e ∷ es) ((e.0, row) ∷ es) (e ∷ with_row es)) h

  more : (e : Rank × Row) (es : List (Rank × Row)) → ranks.cmp-value.it new_rank e.0 ≡ Greater → with_row (e ∷ es) ≡ e ∷ with_row es
  more e es h = ap (λ (o : Ordering). match_ordering o ((new_rank, row) ∷ e ∷ es) ((e.0, row) ∷ es) (e ∷ with_row es)) h

  later_here : (w : Row) (ws : List Row) → precedes finish row w ≡ true → with_later (precedes finish) row (w ∷ ws) ≡ row ∷ w ∷ ws
  later_here w ws e = rw e refl

  later_in : (w : Row) (ws : List Row) → precedes finish row w ≡ false → with_later (precedes finish) row (w ∷ ws) ≡ w ∷ with_later (precedes finish) row ws
  later_in w ws e = rw e refl

  -- the rows after an insert
  pub rows_with : (es : List (Rank × Row)) → AreRanked finish.columns finish.descending next es → values_of (with_row es) ≡ with_later (precedes finish) row (values_of es)
  rows_with [] ranked = refl
  rows_with (e ∷ es) ranked = elim (cases_Bool (precedes finish row e.1)) [
    | inl holds ↦ ap values_of (less e es (stands e ranked.0 ∙ decided_less _ holds)) ∙ sym (later_here e.1 (values_of es) holds)
    | inr fails ↦ ap values_of (more e es (stands e ranked.0 ∙ decided_more _ fails)) ∙ (ap (λ (l : List Row). e.1 ∷ l) (rows_with es ranked.1) ∙ sym (later_in e.1 (values_of es) fails))
  ]

  wider : (e : Rank × Row) → IsRanked finish.columns finish.descending next e → IsRanked finish.columns finish.descending (next + 1) e
  wider e ranked = (ranked.0, omega (arith, ranked.1))

  all_wider : (es : List (Rank × Row)) → AreRanked finish.columns finish.descending next es → AreRanked finish.columns finish.descending (next + 1) es
  all_wider [] ranked = tt
  all_wider (e ∷ es) ranked = (wider e ranked.0, all_wider es ranked.1)

  itself_ranked : (descending : Bool) → rank_of descending (keys_at finish.columns row) next ≡ rank_of descending (keys_at finish.columns row) (rank_of descending (keys_at finish.columns row) next).place
  itself_ranked descending = refl

  pub ranked_with : (es : List (Rank × Row)) → AreRanked finish.columns finish.descending next es → AreRanked finish.columns finish.descending (next + 1) (with_row es)
  ranked_with [] ranked = ((refl, omega (arith)), tt)
  ranked_with (e ∷ es) ranked = elim (cases_Bool (precedes finish row e.1)) [
    | inl holds ↦ rw (less e es (stands e ranked.0 ∙ decided_less _ holds)) ((refl, omega (arith)), (wider e ranked.0, all_wider es ranked.1))
    | inr fails ↦ rw (more e es (stands e ranked.0 ∙ decided_more _ fails)) (wider e ranked.0, ranked_with es ranked.1)
  ]

pub ranked_first : (columns : List ℕ) (descending : Bool) (bound n : ℕ) (es : List (Rank × Row)) → AreRanked columns descending bound es → AreRanked columns descending bound (take n es)
ranked_first columns descending bound zero es ranked = tt
ranked_first columns descending bound (suc n) [] ranked = tt
ranked_first columns descending bound (suc n) (e ∷ es) ranked = (ranked.0, ranked_first columns descending bound n es ranked.1)

pub values_first : (n : ℕ) (es : List (Rank × Row)) → values_of (take n es) ≡ take n (values_of es)
values_first zero es = refl
values_first (suc n) [] = refl
values_first (suc n) (e ∷ es) = ap (λ (l : List Row). e.1 ∷ l) (values_first n es)
