-- Columns and the changes that they take.
use Rattle.std.proofs.Common.{◌≡◌, ◌<◌, ◌+◌, ◌*◌, ◌^◌, ℕ, zero, suc, Bool, true, false, if◌then◌else◌, List, [], ◌∷◌, ◌++◌, length, map, take, drop, get_or, slice_set, pos, Option, Some, None, ap, refl, sym, ◌∙◌, subst, arith}
use Rattle.std.proofs.lemmas.List.{length-append, length-map, map-append, set-get_or, length-set}
use Rattle.std.proofs.Math.ListN.{get_or-map}
use Rattle.std.specs.Int.{saturate_to_bits}
use Rattle.std.specs.List.{AllByRecursion}
use Rattle.lp_values.specs.declared.value.Value.{Value}
use Rattle.lp_values.specs.declared.value.Value.TheVariants.{Null, Int}
use Rattle.lp_values.specs.declared.kind.Kind.TheVariants as K
use Rattle.lp_values.specs.declared.group.AggKind.{AggKind}
use Rattle.lp_values.specs.declared.group.AggKind.TheVariants.{CountAll, Count, Sum, Avg, Min, Max, PropCount}
use Rattle.group_rollup.specs.declared.column.AggregateColumn.{AggregateColumn}
use Rattle.group_rollup.specs.declared.column.AggregateColumn.TheVariants.{Records, Values, Totals, Least, Greatest}
use Rattle.group_rollup.specs.declared.column.Total.{Total}
use Rattle.group_rollup.specs.declared.changes.Change.{Change}
use Rattle.group_rollup.specs.declared.changes.Change.TheVariants as C
use Rattle.group_rollup.specs.Groups.{first_of, rest_of, exact_sum, present, least, greatest, aggregate, aggregates, number_in, sum_in, quotient_or_null}
use Rattle.group_rollup.specs.Columns.{Tally, tally, total_of, column_of, columns_of, no_column, begun, cut, groups_in, AllHave, is_lesser, is_greater, count_sum, total_sum, if_better, put_best, change_by, change_from, applied, changes_by, changes_from, all_applied, finished, all_finished}
use Rattle.group_rollup.specs.Tables.{IsSmall, AreSmall}
use Rattle.group_rollup.proofs.Places.{at_place, past_end, at_end, set_end}
use Rattle.group_rollup.proofs.RoomLemmas.{values_room, saturated, firsts_small, rests_small}
use Rattle.group_rollup.proofs.TallyLemmas.{tally_one_is, sum_append, present_append, least_step, greatest_step}

-- Columns that are cut again.

take_same : {A : Type 0} (xs : List A) (n : ℕ) → length xs ≡ n → take n xs ≡ xs
take_same [] zero e = refl
take_same [] (suc n) e = refl
take_same (x ∷ xs) zero e = absurd (omega (arith, e))
take_same (x ∷ xs) (suc n) e = ap (λ t. x ∷ t) (take_same xs n (omega (arith, e)))

take_more : {A : Type 0} (xs : List A) (x : A) (n : ℕ) → length xs ≡ n → take n (xs ++ x ∷ []) ≡ xs
take_more [] x zero e = refl
take_more [] x (suc n) e = absurd (omega (arith, e))
take_more (y ∷ xs) x zero e = absurd (omega (arith, e))
take_more (y ∷ xs) x (suc n) e = ap (λ t. y ∷ t) (take_more xs x n (omega (arith, e)))

cut_one : (column : AggregateColumn) (n : ℕ) → groups_in column ≡ n → cut n column ≡ column
cut_one (Records counts) n e = ap Records (take_same counts n e)
cut_one (Values counts) n e = ap Values (take_same counts n e)
cut_one (Totals totals) n e = ap Totals (take_same totals n e)
cut_one (Least values) n e = ap Least (take_same values n e)
cut_one (Greatest values) n e = ap Greatest (take_same values n e)

cut_begun : (column : AggregateColumn) (n : ℕ) → groups_in column ≡ n → cut n (begun column) ≡ column
cut_begun (Records counts) n e = ap Records (take_more counts _ n e)
cut_begun (Values counts) n e = ap Values (take_more counts _ n e)
cut_begun (Totals totals) n e = ap Totals (take_more totals _ n e)
cut_begun (Least values) n e = ap Least (take_more values _ n e)
cut_begun (Greatest values) n e = ap Greatest (take_more values _ n e)

pub cut_same : (n : ℕ) (columns : List AggregateColumn) → AllHave n columns → map (cut n) columns ≡ columns
cut_same n [] all = refl
cut_same n (column ∷ columns) all = λ i. cut_one column n all.0 i ∷ cut_same n columns all.1 i

pub cut_begun_all : (n : ℕ) (columns : List AggregateColumn) → AllHave n columns → map (cut n) (map begun columns) ≡ columns
cut_begun_all n [] all = refl
cut_begun_all n (column ∷ columns) all = λ i. cut_begun column n all.0 i ∷ cut_begun_all n columns all.1 i

-- some of the first columns have a group more
pub cut_grown : (n i : ℕ) (columns : List AggregateColumn) → AllHave n columns → map (cut n) (map begun (take i columns) ++ drop i columns) ≡ columns
cut_grown n zero columns all = cut_same n columns all
cut_grown n (suc i) [] all = refl
cut_grown n (suc i) (column ∷ columns) all = λ j. cut_begun column n all.0 j ∷ cut_grown n i columns all.1 j

pub grown_more : (i : ℕ) (columns : List AggregateColumn) (d : AggregateColumn) → i < length columns
    → slice_set (map begun (take i columns) ++ drop i columns) i (begun (get_or columns i d)) ≡ map begun (take (suc i) columns) ++ drop (suc i) columns
grown_more i [] d h = absurd (omega (arith, h))
grown_more zero (column ∷ columns) d h = refl
grown_more (suc i) (column ∷ columns) d h = ap (λ t. begun column ∷ t) (grown_more i columns d (omega (arith, h)))

pub grown_at : (i : ℕ) (columns : List AggregateColumn) (d : AggregateColumn) → get_or (map begun (take i columns) ++ drop i columns) i d ≡ get_or columns i d
grown_at zero columns d = refl
grown_at (suc i) [] d = refl
grown_at (suc i) (column ∷ columns) d = grown_at i columns d

-- How many there are.

pub length_changes : (columns : List AggregateColumn) (index : ℕ) (values : List Value) → length (changes_by columns index values) ≡ length columns
length_changes [] index values = refl
length_changes (column ∷ columns) index values = ap suc (length_changes columns index (rest_of values))

pub length_changes_from : (columns : List AggregateColumn) (index : ℕ) (others : List AggregateColumn) (at : ℕ) → length others ≡ length columns → length (changes_from columns index others at) ≡ length columns
length_changes_from [] index others at e = refl
length_changes_from (column ∷ columns) index [] at e = absurd (omega (arith, e))
length_changes_from (column ∷ columns) index (other ∷ others) at e = ap suc (length_changes_from columns index others at (omega (arith, e)))

pub length_applied : (columns : List AggregateColumn) (index : ℕ) (changes : List Change) → length (all_applied columns index changes) ≡ length columns
length_applied [] index changes = refl
length_applied (column ∷ columns) index [] = refl
length_applied (column ∷ columns) index (change ∷ changes) = ap suc (length_applied columns index changes)

length_best : (values : List Value) (index : ℕ) (best : Option Value) → length (put_best values index best) ≡ length values
length_best values index None = refl
length_best values index (Some value) = length-set values index value

have_applied : (column : AggregateColumn) (index : ℕ) (change : Change) → groups_in (applied column index change) ≡ groups_in column
have_applied (Records counts) index (C.Count by) = length-set counts index _
have_applied (Records counts) index (C.Sum by) = refl
have_applied (Records counts) index (C.Best by) = refl
have_applied (Values counts) index (C.Count by) = length-set counts index _
have_applied (Values counts) index (C.Sum by) = refl
have_applied (Values counts) index (C.Best by) = refl
have_applied (Totals totals) index (C.Count by) = refl
have_applied (Totals totals) index (C.Sum by) = length-set totals index _
have_applied (Totals totals) index (C.Best by) = refl
have_applied (Least values) index (C.Count by) = refl
have_applied (Least values) index (C.Sum by) = refl
have_applied (Least values) index (C.Best by) = length_best values index by
have_applied (Greatest values) index (C.Count by) = refl
have_applied (Greatest values) index (C.Sum by) = refl
have_applied (Greatest values) index (C.Best by) = length_best values index by

pub all_have_applied : (n : ℕ) (columns : List AggregateColumn) (index : ℕ) (changes : List Change) → AllHave n columns → AllHave n (all_applied columns index changes)
all_have_applied n [] index changes all = tt
all_have_applied n (column ∷ columns) index [] all = all
all_have_applied n (column ∷ columns) index (change ∷ changes) all = (have_applied column index change ∙ all.0, all_have_applied n columns index changes all.1)

one_more : {A : Type 0} (xs : List A) (x : A) (n : ℕ) → length xs ≡ n → length (xs ++ x ∷ []) ≡ n + 1
one_more xs x n e = omega (arith, length-append xs (x ∷ []), e)

have_begun : (column : AggregateColumn) (n : ℕ) → groups_in column ≡ n → groups_in (begun column) ≡ n + 1
have_begun (Records counts) n e = one_more counts _ n e
have_begun (Values counts) n e = one_more counts _ n e
have_begun (Totals totals) n e = one_more totals _ n e
have_begun (Least values) n e = one_more values _ n e
have_begun (Greatest values) n e = one_more values _ n e

pub all_have_begun : (n : ℕ) (columns : List AggregateColumn) → AllHave n columns → AllHave (n + 1) (map begun columns)
all_have_begun n [] all = tt
all_have_begun n (column ∷ columns) all = (have_begun column n all.0, all_have_begun n columns all.1)

pub none_have : (kinds : List AggKind) → AllHave 0 (map no_column kinds)
none_have [] = tt
none_have (kind ∷ kinds) = (by kind, none_have kinds)
  where
    by : (kind : AggKind) → groups_in (no_column kind) ≡ 0
    by CountAll = refl
    by Count = refl
    by (Sum kind) = refl
    by (Avg kind) = refl
    by Min = refl
    by Max = refl
    by PropCount = refl

-- What a column keeps after more values.

best_put : (values : List Value) (i : ℕ) (better : Bool) (value : Value) → put_best values i (if_better better value) ≡ slice_set values i (if better then value else get_or values i Null)
best_put values i true value = refl
best_put values i false value = sym (set-get_or values i Null)

pub record Room (vs : List Value) : Type 0 where
  pub small : AllByRecursion IsSmall vs
  pub few : length vs < 2 ^ 63

count_fits : (n a b : ℕ) → n ≡ a + b → n < 2 ^ 63 → count_sum a b ≡ n
count_fits n a b e h = omega (arith, e, h)

records_step : (us ws : List Value) → Room (us ++ ws) → count_sum (length us) (length ws) ≡ length (us ++ ws)
records_step us ws room = count_fits (length (us ++ ws)) (length us) (length ws) (length-append us ws) room.few

values_step : (us ws : List Value) → Room (us ++ ws) → count_sum (length (present us)) (length (present ws)) ≡ length (present (us ++ ws))
values_step us ws room =
    let less = (values_room (us ++ ws) room.small room.few).0 in
    let few = room.few in
    count_fits (length (present (us ++ ws))) (length (present us)) (length (present ws)) (present_append us ws) (omega (arith, less, few))

total_step : (us ws : List Value) → Room (us ++ ws) → total_sum (total_of us) (total_of ws) ≡ total_of (us ++ ws)
total_step us ws room = λ i. record {
  sum = (ap (saturate_to_bits 127) (sym (sum_append us ws)) ∙ saturated (exact_sum (us ++ ws)) (values_room (us ++ ws) room.small room.few).1) i;
  values = values_step us ws room i;
}

least_put : (groups : List (List Value)) (i : ℕ) (ws : List Value)
    → put_best (map least groups) i (if_better (is_lesser (get_or (map least groups) i Null) (least ws)) (least ws)) ≡ map least (slice_set groups i (get_or groups i [] ++ ws))
least_put groups i ws =
    best_put (map least groups) i _ (least ws)
    ∙ at_place least (λ (m : Value). if is_lesser m (least ws) then least ws else m) groups i ws (least_step (get_or groups i []) ws)

greatest_put : (groups : List (List Value)) (i : ℕ) (ws : List Value)
    → put_best (map greatest groups) i (if_better (is_greater (get_or (map greatest groups) i Null) (greatest ws)) (greatest ws)) ≡ map greatest (slice_set groups i (get_or groups i [] ++ ws))
greatest_put groups i ws =
    best_put (map greatest groups) i _ (greatest ws)
    ∙ at_place greatest (λ (m : Value). if is_greater m (greatest ws) then greatest ws else m) groups i ws (greatest_step (get_or groups i []) ws)

pub column_known : (kind : AggKind) (groups : List (List Value)) (i : ℕ) (ws : List Value) → Room (get_or groups i [] ++ ws)
    → applied (column_of kind groups) i (change_by (column_of kind groups) i (tally ws)) ≡ column_of kind (slice_set groups i (get_or groups i [] ++ ws))
column_known CountAll groups i ws room = ap Records (at_place length (λ n. count_sum n (length ws)) groups i ws (records_step (get_or groups i []) ws room))
column_known Count groups i ws room = ap Values (at_place (λ values. length (present values)) (λ n. count_sum n (length (present ws))) groups i ws (values_step (get_or groups i []) ws room))
column_known (Sum kind) groups i ws room = ap Totals (at_place total_of (λ t. total_sum t (total_of ws)) groups i ws (total_step (get_or groups i []) ws room))
column_known (Avg kind) groups i ws room = ap Totals (at_place total_of (λ t. total_sum t (total_of ws)) groups i ws (total_step (get_or groups i []) ws room))
column_known Min groups i ws room = ap Least (least_put groups i ws)
column_known Max groups i ws room = ap Greatest (greatest_put groups i ws)
column_known PropCount groups i ws room = ap Records (at_place length (λ n. count_sum n (length ws)) groups i ws (records_step (get_or groups i []) ws room))

begun_is : (kind : AggKind) (groups : List (List Value)) → begun (column_of kind groups) ≡ column_of kind (groups ++ [] ∷ [])
begun_is CountAll groups = ap Records (sym (map-append length groups ([] ∷ [])))
begun_is Count groups = ap Values (sym (map-append (λ values. length (present values)) groups ([] ∷ [])))
begun_is (Sum kind) groups = ap Totals (sym (map-append total_of groups ([] ∷ [])))
begun_is (Avg kind) groups = ap Totals (sym (map-append total_of groups ([] ∷ [])))
begun_is Min groups = ap Least (sym (map-append least groups ([] ∷ [])))
begun_is Max groups = ap Greatest (sym (map-append greatest groups ([] ∷ [])))
begun_is PropCount groups = ap Records (sym (map-append length groups ([] ∷ [])))

none_yet : {B : Type 0} (h : List Value → B) (groups : List (List Value)) → get_or (map h groups) (length groups) (h []) ≡ get_or (map h (groups ++ [] ∷ [])) (length groups) (h [])
none_yet h groups = get_or-map h groups (length groups) [] ∙ (ap h (past_end groups ∙ sym (at_end groups)) ∙ sym (get_or-map h (groups ++ [] ∷ []) (length groups) []))

change_new : (kind : AggKind) (groups : List (List Value)) (t : Tally) → change_by (column_of kind groups) (length groups) t ≡ change_by (column_of kind (groups ++ [] ∷ [])) (length groups) t
change_new CountAll groups t = refl
change_new Count groups t = refl
change_new (Sum kind) groups t = refl
change_new (Avg kind) groups t = refl
change_new Min groups t = ap (λ (m : Value). C.Best (if_better (is_lesser m t.least) t.least)) (none_yet least groups)
change_new Max groups t = ap (λ (m : Value). C.Best (if_better (is_greater m t.greatest) t.greatest)) (none_yet greatest groups)
change_new PropCount groups t = refl

column_new : (kind : AggKind) (groups : List (List Value)) (ws : List Value) → Room ws
    → applied (begun (column_of kind groups)) (length groups) (change_by (column_of kind groups) (length groups) (tally ws)) ≡ column_of kind (groups ++ ws ∷ [])
column_new kind groups ws room =
    let n = length groups in
    let open_ : List (List Value) = groups ++ [] ∷ [] in
    (λ i. applied (begun_is kind groups i) n (change_new kind groups (tally ws) i))
    ∙ (column_known kind open_ n ws (subst (λ (us : List Value). Room (us ++ ws)) (sym (at_end groups)) room)
    ∙ ap (column_of kind) (set_end groups [] (get_or open_ n [] ++ ws) ∙ ap (λ (us : List Value). groups ++ (us ++ ws) ∷ []) (at_end groups)))

-- The same of all columns.

-- what rows bring, column by column
abbrev pub brought : List AggKind → List (List (List Value)) → ℕ → List (List Value) → List Change
brought [] groups index rows = []
brought (kind ∷ kinds) groups index rows = change_by (column_of kind (map (map first_of) groups)) index (tally (map first_of rows)) ∷ brought kinds (map (map rest_of) groups) index (map rest_of rows)

pub record RowsRoom (rows : List (List Value)) : Type 0 where
  pub small : AllByRecursion AreSmall rows
  pub few : length rows < 2 ^ 63

firsts_room : (rows : List (List Value)) → RowsRoom rows → Room (map first_of rows)
firsts_room rows room = let few = room.few in record { small = firsts_small rows room.small; few = omega (arith, few, length-map rows first_of) }

rests_room : (rows : List (List Value)) → RowsRoom rows → RowsRoom (map rest_of rows)
rests_room rows room = let few = room.few in record { small = rests_small rows room.small; few = omega (arith, few, length-map rows rest_of) }

projected : {A B : Type 0} (f : A → B) (groups : List (List A)) (i : ℕ) (rows : List A) → get_or (map (map f) groups) i [] ++ map f rows ≡ map f (get_or groups i [] ++ rows)
projected f groups i rows = ap (λ us. us ++ map f rows) (get_or-map (map f) groups i []) ∙ sym (map-append f (get_or groups i []) rows)

set_projected : {A B : Type 0} (f : A → B) (groups : List (List A)) (i : ℕ) (rows : List A)
    → slice_set (map (map f) groups) i (get_or (map (map f) groups) i [] ++ map f rows) ≡ map (map f) (slice_set groups i (get_or groups i [] ++ rows))
set_projected f groups i rows = at_place (map f) (λ us. us ++ map f rows) groups i rows (sym (map-append f (get_or groups i []) rows))

pub columns_known : (kinds : List AggKind) (groups : List (List (List Value))) (i : ℕ) (rows : List (List Value)) → RowsRoom (get_or groups i [] ++ rows)
    → all_applied (columns_of kinds groups) i (brought kinds groups i rows) ≡ columns_of kinds (slice_set groups i (get_or groups i [] ++ rows))
columns_known [] groups i rows room = refl
columns_known (kind ∷ kinds) groups i rows room =
    let whole : List (List Value) = get_or groups i [] ++ rows in
    let here = column_known kind (map (map first_of) groups) i (map first_of rows) (subst Room (sym (projected first_of groups i rows)) (firsts_room whole room)) ∙ ap (column_of kind) (set_projected first_of groups i rows) in
    let rest = columns_known kinds (map (map rest_of) groups) i (map rest_of rows) (subst RowsRoom (sym (projected rest_of groups i rows)) (rests_room whole room)) ∙ ap (columns_of kinds) (set_projected rest_of groups i rows) in
    λ j. here j ∷ rest j

column_new_at : (kind : AggKind) (groups : List (List Value)) (n : ℕ) (ws : List Value) → length groups ≡ n → Room ws
    → applied (begun (column_of kind groups)) n (change_by (column_of kind groups) n (tally ws)) ≡ column_of kind (groups ++ ws ∷ [])
column_new_at kind groups n ws e room = subst (λ (k : ℕ). applied (begun (column_of kind groups)) k (change_by (column_of kind groups) k (tally ws)) ≡ column_of kind (groups ++ ws ∷ [])) e (column_new kind groups ws room)

pub columns_new : (kinds : List AggKind) (groups : List (List (List Value))) (n : ℕ) (rows : List (List Value)) → length groups ≡ n → RowsRoom rows
    → all_applied (map begun (columns_of kinds groups)) n (brought kinds groups n rows) ≡ columns_of kinds (groups ++ rows ∷ [])
columns_new [] groups n rows e room = refl
columns_new (kind ∷ kinds) groups n rows e room =
    let here = column_new_at kind (map (map first_of) groups) n (map first_of rows) (length-map groups (map first_of) ∙ e) (firsts_room rows room) ∙ ap (column_of kind) (sym (map-append (map first_of) groups (rows ∷ []))) in
    let rest = columns_new kinds (map (map rest_of) groups) n (map rest_of rows) (length-map groups (map rest_of) ∙ e) (rests_room rows room) ∙ ap (columns_of kinds) (sym (map-append (map rest_of) groups (rows ∷ []))) in
    λ j. here j ∷ rest j

-- a record brings its row
pub record_brings : (kinds : List AggKind) (groups : List (List (List Value))) (i : ℕ) (row : List Value) → changes_by (columns_of kinds groups) i row ≡ brought kinds groups i (row ∷ [])
record_brings [] groups i row = refl
record_brings (kind ∷ kinds) groups i row =
    λ j. change_by (column_of kind (map (map first_of) groups)) i (tally_one_is (first_of row) j) ∷ record_brings kinds (map (map rest_of) groups) i (rest_of row) j

group_brings_one : (kind : AggKind) (groups : List (List Value)) (i : ℕ) (others : List (List Value)) (at : ℕ)
    → change_from (column_of kind groups) i (column_of kind others) at ≡ change_by (column_of kind groups) i (tally (get_or others at []))
group_brings_one CountAll groups i others at = ap C.Count (get_or-map length others at [])
group_brings_one Count groups i others at = ap C.Count (get_or-map (λ values. length (present values)) others at [])
group_brings_one (Sum kind) groups i others at = ap C.Sum (get_or-map total_of others at [])
group_brings_one (Avg kind) groups i others at = ap C.Sum (get_or-map total_of others at [])
group_brings_one Min groups i others at = ap (λ (w : Value). C.Best (if_better (is_lesser (get_or (map least groups) i Null) w) w)) (get_or-map least others at [])
group_brings_one Max groups i others at = ap (λ (w : Value). C.Best (if_better (is_greater (get_or (map greatest groups) i Null) w) w)) (get_or-map greatest others at [])
group_brings_one PropCount groups i others at = ap C.Count (get_or-map length others at [])

-- a group of another table brings its rows
pub group_brings : (kinds : List AggKind) (groups : List (List (List Value))) (i : ℕ) (others : List (List (List Value))) (at : ℕ)
    → changes_from (columns_of kinds groups) i (columns_of kinds others) at ≡ brought kinds groups i (get_or others at [])
group_brings [] groups i others at = refl
group_brings (kind ∷ kinds) groups i others at =
    let here = group_brings_one kind (map (map first_of) groups) i (map (map first_of) others) at ∙ ap (λ (ws : List Value). change_by (column_of kind (map (map first_of) groups)) i (tally ws)) (get_or-map (map first_of) others at []) in
    let rest = group_brings kinds (map (map rest_of) groups) i (map (map rest_of) others) at ∙ ap (brought kinds (map (map rest_of) groups) i) (get_or-map (map rest_of) others at []) in
    λ j. here j ∷ rest j

pub columns_none : (kinds : List AggKind) → map no_column kinds ≡ columns_of kinds []
columns_none [] = refl
columns_none (kind ∷ kinds) = λ j. by kind j ∷ columns_none kinds j
  where
    by : (kind : AggKind) → no_column kind ≡ column_of kind []
    by CountAll = refl
    by Count = refl
    by (Sum kind) = refl
    by (Avg kind) = refl
    by Min = refl
    by Max = refl
    by PropCount = refl

-- The aggregates of a group.

int_of : (n : ℕ) → n < 2 ^ 63 → number_in K.Integer (pos n) ≡ Int (pos n)
int_of n h = grind (arith)

finished_is : (kind : AggKind) (all : ℕ) (groups : List (List Value)) (i : ℕ) → length (get_or groups i []) < 2 ^ 63 → length (present (get_or groups i [])) < 2 ^ 63
    → finished kind all (column_of kind groups) i ≡ aggregate kind all (get_or groups i [])
finished_is CountAll all groups i few less = ap (λ (n : ℕ). number_in K.Integer (pos n)) (get_or-map length groups i []) ∙ int_of _ few
finished_is Count all groups i few less = ap (λ (n : ℕ). number_in K.Integer (pos n)) (get_or-map (λ values. length (present values)) groups i []) ∙ int_of _ less
finished_is (Sum kind) all groups i few less = ap (λ (t : Total). sum_in kind t.sum t.values) (get_or-map total_of groups i [])
finished_is (Avg kind) all groups i few less = ap (λ (t : Total). quotient_or_null kind t.sum t.values) (get_or-map total_of groups i [])
finished_is Min all groups i few less = get_or-map least groups i []
finished_is Max all groups i few less = get_or-map greatest groups i []
finished_is PropCount all groups i few less = ap (λ (n : ℕ). quotient_or_null K.Real (pos (n * 1_000_000)) all) (get_or-map length groups i [])

pub all_finished_is : (kinds : List AggKind) (all : ℕ) (groups : List (List (List Value))) (i : ℕ) → RowsRoom (get_or groups i [])
    → all_finished kinds all (columns_of kinds groups) i ≡ aggregates kinds all (get_or groups i [])
all_finished_is [] all groups i room = refl
all_finished_is (kind ∷ kinds) all groups i room =
    let e = get_or-map (map first_of) groups i [] in
    let r = subst Room (sym e) (firsts_room (get_or groups i []) room) in
    let few = r.few in
    let less = (values_room _ r.small r.few).0 in
    let here = finished_is kind all (map (map first_of) groups) i few (omega (arith, few, less)) ∙ ap (aggregate kind all) e in
    let f = get_or-map (map rest_of) groups i [] in
    let rest = all_finished_is kinds all (map (map rest_of) groups) i (subst RowsRoom (sym f) (rests_room (get_or groups i []) room)) ∙ ap (aggregates kinds all) f in
    λ j. here j ∷ rest j
