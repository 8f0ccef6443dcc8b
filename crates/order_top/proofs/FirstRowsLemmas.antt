-- What the first rows are after a row more, and when a row goes behind them.
use Rattle.std.proofs.Common.{◌≡◌, ◌≤◌, ◌+◌, ◌-◌, ◌&&◌, ◌++◌, ℕ, zero, suc, Bool, true, false, not, List, [], ◌∷◌, length, take, slice_get, nat_le, Option, Some, refl, sym, ◌∙◌, ap, subst, arith}
use Rattle.std.proofs.lemmas.Bool.Decides.{nat_tests}
use Rattle.std.proofs.lemmas.List.{length-map, length-take}
use Rattle.std.specs.Option.{option_map, option_to_list}
use Rattle.std.specs.Ordering.{is_lt}
use Rattle.std.specs.Map.{values_of}
use Rattle.std.specs.BTreeMap.{insert_entry}
use Rattle.lp_values.specs.declared.value.Value.{Value}
use Rattle.order_top.specs.contracts.rank.RankOrd.TheImpl as ranks
use Rattle.order_top.specs.declared.rank.Rank.{Rank}
use Rattle.order_top.specs.Finish.{Row, Finish, keys_at, key_order, precedes, goes_before}
use Rattle.order_top.specs.Lists.{with_later, first_items}
use Rattle.order_top.specs.Ordering.{Ordering, is_past, is_behind, last_of}
use Rattle.order_top.specs.Ranks.{keys_of, rank_of, is_before, IsRanked, AreRanked}
use Rattle.order_top.proofs.Ranking.{with_row, rows_with, ranked_with, ranked_first, values_first}

some_same : (f e : Rank × Row) → Some f ≡ Some e → f ≡ e
some_same f e h = cc h

before_told : (descending : Bool) (keys own : List Value) → is_before keys (keys_of descending own) ≡ is_lt (key_order descending keys own)
before_told false keys own = refl
before_told true keys own = refl

got_value : (es : List (Rank × Row)) (i : ℕ) (e : Rank × Row) → slice_get es i ≡ Some e → slice_get (values_of es) i ≡ Some e.1
got_value [] i e h = cc h
got_value (f ∷ es) zero e h = ap (option_map (λ (p : Rank × Row). p.1)) h
got_value (f ∷ es) (suc i) e h = got_value es i e h

got_ranked : (columns : List ℕ) (descending : Bool) (bound : ℕ) (es : List (Rank × Row)) (i : ℕ) (e : Rank × Row) → AreRanked columns descending bound es → slice_get es i ≡ Some e → IsRanked columns descending bound e
got_ranked columns descending bound [] i e ranked h = cc h
got_ranked columns descending bound (f ∷ es) zero e ranked h = subst (IsRanked columns descending bound) (some_same f e h) ranked.0
got_ranked columns descending bound (f ∷ es) (suc i) e ranked h = got_ranked columns descending bound es i e ranked.1 h

module _ (columns : List ℕ) (descending : Bool) (limit next : ℕ) (es : List (Rank × Row)) (s : Ordering) where
  abbrev asked : Finish
  asked = record { columns = columns; descending = descending; distinct = false; top = Some limit }

  abbrev shown : List Row → ℕ → Ordering
  shown rows places = record { finish = asked; kept = rows; places = places }

  module _ (seen : shown (values_of es) next ≡ s) (ranked : AreRanked columns descending next es) where
    pub past_told : (keys : List Value) (e : Rank × Row) → limit ≤ length es → slice_get es (length es - 1) ≡ Some e → not (is_before keys e.0.keys) ≡ is_past s.finish keys s.kept
    past_told keys e full last =
        let own = keys_at columns e.1 in
        let told : is_before keys e.0.keys ≡ goes_before asked keys e.1 =
        ap (λ (r : Rank). is_before keys r.keys) (got_ranked columns descending next es (length es - 1) e ranked last).0 ∙ before_told descending keys own in
        let there : last_of (values_of es) ≡ Some e.1 =
        ap (λ (n : ℕ). slice_get (values_of es) (n - 1)) (length-map es (λ (p : Rank × Row). p.1)) ∙ got_value es (length es - 1) e last in
        let is_full : nat_le limit (length (values_of es)) ≡ true = ap (nat_le limit) (length-map es (λ (p : Rank × Row). p.1)) ∙ grind (arith, nat_tests) in
        ap not told
        ∙ (sym (ap (is_behind asked keys) there)
        ∙ (sym (ap (λ (b : Bool). b && is_behind asked keys (last_of (values_of es))) is_full)
        ∙ ap (λ (t : Ordering). is_past t.finish keys t.kept) seen))

    -- the same by the row's own values
    pub past_row_told : (row : Row) (e : Rank × Row) → limit ≤ length es → slice_get es (length es - 1) ≡ Some e → not (is_lt (key_order descending (keys_at columns row) (keys_at columns e.1))) ≡ is_past s.finish (keys_at s.finish.columns row) s.kept
    past_row_told row e full last =
        let there : last_of (values_of es) ≡ Some e.1 =
        ap (λ (n : ℕ). slice_get (values_of es) (n - 1)) (length-map es (λ (p : Rank × Row). p.1)) ∙ got_value es (length es - 1) e last in
        let is_full : nat_le limit (length (values_of es)) ≡ true = ap (nat_le limit) (length-map es (λ (p : Rank × Row). p.1)) ∙ grind (arith, nat_tests) in
        sym (ap (is_behind asked (keys_at columns row)) there)
        ∙ (sym (ap (λ (b : Bool). b && is_behind asked (keys_at columns row) (last_of (values_of es))) is_full)
        ∙ ap (λ (t : Ordering). is_past t.finish (keys_at t.finish.columns row) t.kept) seen)

    module _ (keys : List Value) (rank : Rank) (row : Row) (keyed : keys ≡ keys_at s.finish.columns row) (made : rank ≡ rank_of descending keys next) where
      columns_are : s.finish.columns ≡ columns
      columns_are = sym (ap (λ (t : Ordering). t.finish.columns) seen)

      rank_is : rank ≡ rank_of descending (keys_at columns row) next
      rank_is = made ∙ ap (λ (k : List Value). rank_of descending k next) (keyed ∙ ap (λ (l : List ℕ). keys_at l row) columns_are)

      inserted : insert_entry ranks.cmp-value.it es rank row ≡ with_row asked next row es
      inserted = ap (λ (r : Rank). insert_entry ranks.cmp-value.it es r row) rank_is

      all_rows : values_of (insert_entry ranks.cmp-value.it es rank row) ≡ with_later (precedes asked) row (values_of es)
      all_rows = ap values_of inserted ∙ rows_with asked next row es ranked

      pub gone_told : (es' : List (Rank × Row)) (gone : Option Row) → values_of (insert_entry ranks.cmp-value.it es rank row) ≡ values_of es' ++ option_to_list gone → with_later (precedes s.finish) row s.kept ≡ values_of es' ++ option_to_list gone
      gone_told es' gone e = sym (ap (λ (t : Ordering). with_later (precedes t.finish) row t.kept) seen) ∙ (sym all_rows ∙ e)

      module _ (es' : List (Rank × Row)) (put : es' ≡ take limit (insert_entry ranks.cmp-value.it es rank row)) where
        pub still_ranked : AreRanked columns descending (next + 1) es' × (length es' ≤ limit)
        still_ranked = (
          subst (AreRanked columns descending (next + 1)) (sym (put ∙ ap (take limit) inserted)) (ranked_first columns descending (next + 1) limit (with_row asked next row es) (ranked_with asked next row es ranked)),
          subst (λ (n : ℕ). n ≤ limit) (sym (ap length put ∙ length-take limit (insert_entry ranks.cmp-value.it es rank row))) (omega arith),
        )

        rows_are : values_of es' ≡ take limit (with_later (precedes asked) row (values_of es))
        rows_are = ap values_of put ∙ (values_first limit (insert_entry ranks.cmp-value.it es rank row) ∙ ap (take limit) all_rows)

        abbrev after : Ordering → Ordering
        after t = record { finish = t.finish; kept = first_items t.finish.top (with_later (precedes t.finish) row t.kept); places = t.places + 1 }

        pub put_told : shown (values_of es') (next + 1) ≡ after s
        put_told = ap (λ (rows : List Row). shown rows (next + 1)) rows_are ∙ ap after seen
