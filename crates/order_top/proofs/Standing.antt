-- What is kept stands for the rows given.
use Rattle.std.proofs.Common.{◌≡◌, ◌≤◌, ◌+◌, ◌-◌, ◌&&◌, ◌++◌, ℕ, zero, suc, Bool, true, false, not, if◌then◌else◌, List, [], ◌∷◌, length, take, slice_get, nat_le, is_some, Option, Some, None, refl, sym, ◌∙◌, ap, subst, inl, inr, arith}
use Rattle.std.proofs.lemmas.Bool.{cases_Bool, true≢false}
use Rattle.std.proofs.lemmas.Bool.Decides.{nat_tests}
use Rattle.std.proofs.lemmas.List.{length-take, length-append, take_all, take-append-le}
use Rattle.std.specs.Cmp.{IsStrictWeakOrder}
use Rattle.std.specs.List.{list_any}
use Rattle.indexmap.specs.IndexSet.{insert_key}
use Rattle.lp_values.specs.declared.value.Value.{Value}
use Rattle.order_top.specs.Finish.{Row, Finish, same_row, keys_at, precedes, goes_before, distinct_rows, finished}
use Rattle.order_top.specs.Lists.{first_occurrences, ordered, with_later, first_items}
use Rattle.order_top.specs.Ordering.{Ordering, StandsFor, under_distinct, kept_of, is_past, is_behind, last_of}
use Rattle.order_top.proofs.Unique.{AllFrom, Rising}
use Rattle.order_top.proofs.Keeping.{later_in, ordered_more, first_more}
use Rattle.order_top.proofs.Law.{ordered_rises}
use Rattle.order_top.proofs.Firsts.{firsts_more, distinct_known, distinct_more}
use Rattle.order_top.proofs.Values.{rows_ranked, row_itself, row_told}

module _ {X : Type 0} (lt : X → X → Bool) (o : IsStrictWeakOrder lt) where
  from_first : (w : X) (n : ℕ) (l : List X) → AllFrom lt o w l → AllFrom lt o w (take n l)
  from_first w zero l all = tt
  from_first w (suc n) [] all = tt
  from_first w (suc n) (v ∷ vs) all = (all.0, from_first w n vs all.1)

  first_rising : (n : ℕ) (l : List X) → Rising lt o l → Rising lt o (take n l)
  first_rising zero l up = tt
  first_rising (suc n) [] up = tt
  first_rising (suc n) (w ∷ ws) up = (from_first w n ws up.0, first_rising n ws up.1)

  some_is : (a b : X) → Some a ≡ Some b → a ≡ b
  some_is a b e = cc e

  from_any : (w z : X) (l : List X) (i : ℕ) → AllFrom lt o w l → slice_get l i ≡ Some z → lt z w ≡ false
  from_any w z [] i all e = cc e
  from_any w z (v ∷ vs) zero all e = subst (λ (u : X). lt u w ≡ false) (some_is v z e) all.0
  from_any w z (v ∷ vs) (suc i) all e = from_any w z vs i all.1 e

  -- what doesn't go before the last goes behind all
  behind_last : (y z w : X) (ws : List X) → Rising lt o (w ∷ ws) → slice_get (w ∷ ws) (length ws) ≡ Some z → lt y z ≡ false → with_later lt y (w ∷ ws) ≡ (w ∷ ws) ++ y ∷ []
  behind_last y z w [] up e fails = later_in lt o y w [] (subst (λ (u : X). lt y u ≡ false) (sym (some_is w z e)) fails)
  behind_last y z w (v ∷ vs) up e fails =
      later_in lt o y w (v ∷ vs) (o.chain y z w fails (from_any w z (v ∷ vs) (length vs) up.0 e)) ∙ ap (λ (l : List X). w ∷ l) (behind_last y z v vs up.1 e fails)

not_true : (b : Bool) → not b ≡ true → b ≡ false
not_true true e = sym e
not_true false e = refl

none_wanted : (n : ℕ) → n ≤ 0 → n ≡ 0
none_wanted n h = omega arith

last_is : (w : Row) (ws : List Row) (last : Option Row) → last_of (w ∷ ws) ≡ last → slice_get (w ∷ ws) (length ws) ≡ last
last_is w ws last e = let at : length (w ∷ ws) - 1 ≡ length ws = omega arith in ap (slice_get (w ∷ ws)) (sym at) ∙ e

got : (ws : List Row) (w : Row) → slice_get (w ∷ ws) (length ws) ≡ None → ⊥
got [] w e = cc e
got (v ∷ vs) w e = got vs v e

some_last : (w : Row) (ws : List Row) → last_of (w ∷ ws) ≡ None → ⊥
some_last w ws e = got ws w (last_is w ws None e)

module _ (finish : Finish) (keys : List Value) (row : Row) (keyed : keys_at finish.columns row ≡ keys) where
  none_before : (z : Row) → not (goes_before finish keys z) ≡ true → precedes finish row z ≡ false
  none_before z e = ap (λ (k : List Value). goes_before finish k z) keyed ∙ not_true (goes_before finish keys z) e

  past_by : (n : ℕ) (kept : List Row) (last : Option Row) → last_of kept ≡ last → Rising (precedes finish) (rows_ranked finish) kept → n ≤ length kept → is_behind finish keys last ≡ true → take n (with_later (precedes finish) row kept) ≡ take n kept
  past_by n [] last e up full behind = rw (none_wanted n full) refl
  past_by n (w ∷ ws) None e up full behind = absurd (some_last w ws e)
  past_by n (w ∷ ws) (Some z) e up full behind =
      ap (take n) (behind_last (precedes finish) (rows_ranked finish) row z w ws up (last_is w ws (Some z) e) (none_before z behind)) ∙ take-append-le n (w ∷ ws) (row ∷ []) full

one_more : (rows : List Row) (row : Row) (places : ℕ) → places ≤ length rows → places + 1 ≤ length (rows ++ row ∷ [])
one_more rows row places h = subst (λ (n : ℕ). places + 1 ≤ n) (sym (length-append rows (row ∷ []))) (omega arith)

no_fewer : (rows : List Row) (row : Row) (places : ℕ) → places ≤ length rows → places ≤ length (rows ++ row ∷ [])
no_fewer rows row places h = subst (λ (n : ℕ). places ≤ n) (sym (length-append rows (row ∷ []))) (omega arith)

abbrev pub asked : List ℕ → Bool → Bool → ℕ → Finish
asked columns descending distinct n = record { columns = columns; descending = descending; distinct = distinct; top = Some n }

first_left : (n : ℕ) (l : List Row) → take n (take n l) ≡ take n l
first_left n l = take_all n (take n l) (subst (λ (k : ℕ). k ≤ n) (sym (length-take n l)) (omega arith))

-- the first n of the rows and one more, where DISTINCT isn't asked
plain_more : (columns : List ℕ) (descending : Bool) (n : ℕ) (rows : List Row) (row : Row) → finished (asked columns descending false n) (rows ++ row ∷ []) ≡ take n (with_later (precedes (asked columns descending false n)) row (finished (asked columns descending false n) rows))
plain_more columns descending n rows row =
    let finish = asked columns descending false n in
    ap (take n) (ordered_more (precedes finish) (rows_ranked finish) rows row) ∙ sym (first_more (precedes finish) (rows_ranked finish) n row (ordered (precedes finish) rows))

-- the first n distinct ones, where the new one is among them, and where it isn't
pub known_more : (columns : List ℕ) (descending : Bool) (n : ℕ) (rows : List Row) (row : Row) → list_any (same_row row) (finished (asked columns descending true n) rows) ≡ true → finished (asked columns descending true n) (rows ++ row ∷ []) ≡ finished (asked columns descending true n) rows
known_more columns descending n rows row e =
    let finish = asked columns descending true n in
    distinct_known same_row row_itself row_told (precedes finish) (rows_ranked finish) n rows row e

pub new_more : (columns : List ℕ) (descending : Bool) (n : ℕ) (rows : List Row) (row : Row) → list_any (same_row row) (finished (asked columns descending true n) rows) ≡ false → finished (asked columns descending true n) (rows ++ row ∷ []) ≡ take n (with_later (precedes (asked columns descending true n)) row (finished (asked columns descending true n) rows))
new_more columns descending n rows row e =
    let finish = asked columns descending true n in
    distinct_more same_row row_itself row_told (precedes finish) (rows_ranked finish) n rows row e

first_true : (a b : Bool) → (a && b) ≡ true → a ≡ true
first_true true b e = refl
first_true false b e = e

second_true : (a b : Bool) → (a && b) ≡ true → b ≡ true
second_true true b e = e
second_true false b e = absurd (true≢false (sym e))

no_more : (n : ℕ) (l : List Row) → nat_le n (length l) ≡ true → n ≤ length l
no_more n l e = grind (arith, nat_tests)

rises : (columns : List ℕ) (descending distinct : Bool) (n : ℕ) (rows : List Row) → Rising (precedes (asked columns descending distinct n)) (rows_ranked (asked columns descending distinct n)) (finished (asked columns descending distinct n) rows)
rises columns descending distinct n rows =
    let finish = asked columns descending distinct n in
    first_rising (precedes finish) (rows_ranked finish) n (ordered (precedes finish) (distinct_rows finish rows)) (ordered_rises (precedes finish) (rows_ranked finish) (distinct_rows finish rows))

-- a row that goes behind n kept ones changes nothing
stays : (columns : List ℕ) (descending distinct : Bool) (n : ℕ) (rows : List Row) (keys : List Value) (row : Row) → keys_at columns row ≡ keys →
    is_past (asked columns descending distinct n) keys (finished (asked columns descending distinct n) rows) ≡ true → take n (with_later (precedes (asked columns descending distinct n)) row (finished (asked columns descending distinct n) rows)) ≡ finished (asked columns descending distinct n) rows
stays columns descending distinct n rows keys row keyed past =
    let finish = asked columns descending distinct n in
    let kept = finished finish rows in
    past_by finish keys row keyed n kept (last_of kept) refl (rises columns descending distinct n rows) (no_more n kept (first_true (nat_le n (length kept)) (is_behind finish keys (last_of kept)) past)) (second_true (nat_le n (length kept)) (is_behind finish keys (last_of kept)) past)
    ∙ first_left n (ordered (precedes finish) (distinct_rows finish rows))

past_finished : (columns : List ℕ) (descending distinct : Bool) (n : ℕ) (rows : List Row) (keys : List Value) (row : Row) → keys_at columns row ≡ keys →
    is_past (asked columns descending distinct n) keys (finished (asked columns descending distinct n) rows) ≡ true → finished (asked columns descending distinct n) (rows ++ row ∷ []) ≡ finished (asked columns descending distinct n) rows
past_finished columns descending false n rows keys row keyed past = plain_more columns descending n rows row ∙ stays columns descending false n rows keys row keyed past
past_finished columns descending true n rows keys row keyed past = elim (cases_Bool (list_any (same_row row) (finished (asked columns descending true n) rows))) [
  | inl known ↦ known_more columns descending n rows row known
  | inr new ↦ new_more columns descending n rows row new ∙ stays columns descending true n rows keys row keyed past
]

past_kept : (columns : List ℕ) (descending distinct : Bool) (top : Option ℕ) (kept rows : List Row) (keys : List Value) (row : Row) →
    keys_at columns row ≡ keys → kept ≡ kept_of (record { columns = columns; descending = descending; distinct = distinct; top = top }) rows →
    is_past (record { columns = columns; descending = descending; distinct = distinct; top = top }) keys kept ≡ true → kept ≡ kept_of (record { columns = columns; descending = descending; distinct = distinct; top = top }) (rows ++ row ∷ [])
past_kept columns descending distinct None kept rows keys row keyed told past = absurd (true≢false (sym past))
past_kept columns descending distinct (Some n) kept rows keys row keyed told past =
    told ∙ sym (past_finished columns descending distinct n rows keys row keyed (ap (is_past (asked columns descending distinct n) keys) (sym told) ∙ past))

-- a row that is past may be left out
pub past_stands : (s : Ordering) (keys : List Value) → is_past s.finish keys s.kept ≡ true → (row : Row) → keys_at s.finish.columns row ≡ keys → (rows : List Row) → StandsFor s rows → StandsFor s (rows ++ row ∷ [])
past_stands s keys past row keyed rows stands = record {
  kept = past_kept s.finish.columns s.finish.descending s.finish.distinct s.finish.top s.kept rows keys row keyed stands.kept past;
  places = no_fewer rows row s.places stands.places;
}

abbrev pub with_one : Ordering → Row → Ordering
with_one s row = record { finish = s.finish; kept = first_items s.finish.top (with_later (precedes s.finish) row s.kept); places = s.places + 1 }

-- one more among the first n, where DISTINCT isn't asked
pub plain_stands : (columns : List ℕ) (descending : Bool) (n : ℕ) (kept : List Row) (places : ℕ) (s : Ordering) → record { finish = asked columns descending false n; kept = kept; places = places } ≡ s → (rows : List Row) (row : Row) → StandsFor s rows → StandsFor (with_one s row) (rows ++ row ∷ [])
plain_stands columns descending n kept places s seen rows row =
    subst (λ (t : Ordering). StandsFor t rows → StandsFor (with_one t row) (rows ++ row ∷ [])) seen (λ stands. record {
      kept = ap (λ (l : List Row). take n (with_later (precedes (asked columns descending false n)) row l)) stands.kept ∙ sym (plain_more columns descending n rows row);
      places = one_more rows row places stands.places;
    })

-- DISTINCT without TOP
pub distinct_stands : (kept rows : List Row) (row : Row) → kept ≡ first_occurrences same_row rows → (kept' : List Row) → kept' ≡ insert_key same_row kept row →
    kept' ≡ first_occurrences same_row (rows ++ row ∷ [])
distinct_stands kept rows row told kept' put = put ∙ (ap (λ (l : List Row). insert_key same_row l row) told ∙ sym (firsts_more same_row row_itself row_told rows row))

abbrev all_distinct : List ℕ → Bool → List Row → Ordering
all_distinct columns descending kept = record { finish = record { columns = columns; descending = descending; distinct = true; top = None }; kept = kept; places = 0 }

abbrev with_distinct : Ordering → Row → Ordering
with_distinct s row = record { finish = s.finish; kept = insert_key same_row s.kept row; places = s.places }

module _ (columns : List ℕ) (descending : Bool) (kept : List Row) (s : Ordering) (seen : all_distinct columns descending kept ≡ s) (row : Row) (kept' : List Row) (put : kept' ≡ insert_key same_row kept row) where
  pub distinct_put : all_distinct columns descending kept' ≡ with_distinct s row
  distinct_put = ap (all_distinct columns descending) put ∙ ap (λ (t : Ordering). with_distinct t row) seen

  -- a row that is there leaves all as it is
  pub distinct_stays : list_any (same_row row) s.kept ≡ true → all_distinct columns descending kept' ≡ s
  distinct_stays known = distinct_put ∙ ap (λ (b : Bool). record { finish = s.finish; kept = if b then s.kept else s.kept ++ row ∷ []; places = s.places }) known

  pub distinct_put_stands : (rows : List Row) → StandsFor s rows → StandsFor (all_distinct columns descending kept') (rows ++ row ∷ [])
  distinct_put_stands rows stands =
      let before : StandsFor (all_distinct columns descending kept) rows = subst (λ (t : Ordering). StandsFor t rows) (sym seen) stands in
      record { kept = distinct_stands kept rows row before.kept kept' put; places = omega arith }

-- a row that isn't among those kept isn't there already
pub not_known : (before s : Ordering) → before ≡ s → (row : Row) → list_any (same_row row) before.kept ≡ false → list_any (same_row row) s.kept ≡ true → ⊥
not_known before s seen row new known = true≢false (sym known ∙ (sym (ap (λ (t : Ordering). list_any (same_row row) t.kept) seen) ∙ new))

-- DISTINCT with TOP: a row that is kept, and one that isn't
known_at : (columns : List ℕ) (descending : Bool) (top : Option ℕ) → is_some top ≡ true → (kept rows : List Row) (row : Row) → list_any (same_row row) kept ≡ true →
    kept ≡ kept_of (record { columns = columns; descending = descending; distinct = true; top = top }) rows → kept ≡ kept_of (record { columns = columns; descending = descending; distinct = true; top = top }) (rows ++ row ∷ [])
known_at columns descending None some kept rows row known told = absurd (true≢false (sym some))
known_at columns descending (Some n) some kept rows row known told = told ∙ sym (known_more columns descending n rows row (ap (list_any (same_row row)) (sym told) ∙ known))

new_at : (columns : List ℕ) (descending : Bool) (top : Option ℕ) → is_some top ≡ true → (kept rows : List Row) (row : Row) → list_any (same_row row) kept ≡ false →
    kept ≡ kept_of (record { columns = columns; descending = descending; distinct = true; top = top }) rows →
    first_items top (with_later (precedes (record { columns = columns; descending = descending; distinct = true; top = top })) row kept) ≡ kept_of (record { columns = columns; descending = descending; distinct = true; top = top }) (rows ++ row ∷ [])
new_at columns descending None some kept rows row new told = absurd (true≢false (sym some))
new_at columns descending (Some n) some kept rows row new told =
    ap (λ (l : List Row). take n (with_later (precedes (asked columns descending true n)) row l)) told
    ∙ sym (new_more columns descending n rows row (ap (list_any (same_row row)) (sym told) ∙ new))

module _ (first : Ordering) (some : is_some first.finish.top ≡ true) (s : Ordering) (seen : under_distinct first ≡ s) (row : Row) (rows : List Row) (stands : StandsFor s rows) where
  before : StandsFor (under_distinct first) rows
  before = subst (λ (t : Ordering). StandsFor t rows) (sym seen) stands

  pub known_stands : list_any (same_row row) first.kept ≡ true → StandsFor s (rows ++ row ∷ [])
  known_stands known = subst (λ (t : Ordering). StandsFor t (rows ++ row ∷ [])) seen (record {
    kept = known_at first.finish.columns first.finish.descending first.finish.top some first.kept rows row known before.kept;
    places = no_fewer rows row first.places before.places;
  })

  pub new_stands : list_any (same_row row) first.kept ≡ false → (first' : Ordering) → first' ≡ with_one first row → StandsFor (under_distinct first') (rows ++ row ∷ [])
  new_stands new first' put = subst (λ (t : Ordering). StandsFor (under_distinct t) (rows ++ row ∷ [])) (sym put) (record {
    kept = new_at first.finish.columns first.finish.descending first.finish.top some first.kept rows row new before.kept;
    places = one_more rows row first.places before.places;
  })

  pub past_still_stands : is_past first.finish (keys_at first.finish.columns row) first.kept ≡ true → StandsFor s (rows ++ row ∷ [])
  past_still_stands past = subst (λ (t : Ordering). StandsFor t (rows ++ row ∷ [])) seen (past_stands (under_distinct first) (keys_at first.finish.columns row) past row refl rows before)

told_at : (columns : List ℕ) (descending : Bool) (top : Option ℕ) → is_some top ≡ true → (kept rows : List Row) →
    kept ≡ kept_of (record { columns = columns; descending = descending; distinct = true; top = top }) rows → kept ≡ finished (record { columns = columns; descending = descending; distinct = true; top = top }) rows
told_at columns descending None some kept rows told = absurd (true≢false (sym some))
told_at columns descending (Some n) some kept rows told = told

pub distinct_rows_told : (first : Ordering) → is_some first.finish.top ≡ true → (s : Ordering) → under_distinct first ≡ s → (rows : List Row) → StandsFor s rows → (list : List Row) → list ≡ first.kept → list ≡ finished s.finish rows
distinct_rows_told first some s seen rows stands list is =
    let before : StandsFor (under_distinct first) rows = subst (λ (t : Ordering). StandsFor t rows) (sym seen) stands in
    is ∙ (told_at first.finish.columns first.finish.descending first.finish.top some first.kept rows before.kept ∙ ap (λ (t : Ordering). finished t.finish rows) seen)
