-- The records group by group are as good as the records.
use Rattle.std.proofs.Common.{◌≡◌, ◌≤◌, ◌<◌, ◌+◌, ◌^◌, ℕ, zero, suc, Bool, true, false, not, cond, ◌||◌, List, [], ◌∷◌, ◌++◌, map, take, length, get_or, slice_get, Some, refl, sym, ◌∙◌, ap, subst, true≢false, arith}
use Rattle.std.specs.List.{list_any, IsDistinct, AllByRecursion}
use Rattle.std.proofs.lemmas.List.{map-append, append_assoc, length-append, take_all}
use Rattle.std.proofs.lemmas.List.Elements.{filter-append}
use Rattle.lp_values.specs.declared.value.Value.{Value}
use Rattle.lp_values.specs.declared.group.AggKind.{AggKind}
use Rattle.lp_values.specs.declared.group.AggKind.TheVariants.{CountAll, Count, Sum, Avg, Min, Max, PropCount}
use Rattle.group_rollup.specs.declared.changes.Change.{Change}
use Rattle.group_rollup.specs.declared.column.AggregateColumn.{AggregateColumn}
use Rattle.group_rollup.specs.declared.column.AggregateColumn.TheVariants.{Records, Values, Totals, Least, Greatest}
use Rattle.group_rollup.specs.Groups.{Record, is_same, firsts, keys_of, members, arguments, first_of, rest_of}
use Rattle.group_rollup.specs.Columns.{Tally, tally, column_of, columns_of, changes_from}
use Rattle.group_rollup.specs.Tables.{regrouped, AllSmall, groups_of, Keeps, Stands, IsAdded}
use Rattle.group_rollup.proofs.FirstsLemmas.{laws, is, any_firsts, none_member, none_some, same_some}
use Rattle.group_rollup.proofs.ColumnLemmas.{brought, group_brings}
use Rattle.group_rollup.proofs.Places.{get_found}
use Rattle.group_rollup.proofs.RollupLemmas.{without, firsts_of_firsts}
use Rattle.group_rollup.proofs.RoomLemmas.{small_append, kept_small}
use Rattle.group_rollup.proofs.TableLemmas.{Alike, keys_new, keeps_added, append_nil, or_true, any_at, get_map}
use Rattle.group_rollup.proofs.TallyLemmas.{join, join_assoc, join_comm, tally_append}

abbrev pub AllDiffer : List Value → List (List Value) → Type 0
AllDiffer k keys = AllByRecursion (λ z. is_same k z ≡ false) keys

without_all : (k : List Value) (keys : List (List Value)) → AllDiffer k keys → without k keys ≡ keys
without_all k [] all = refl
without_all k (x ∷ keys) all = ap (λ (b : Bool). cond (not b) (x ∷ without k keys) (without k keys)) all.0 ∙ ap (λ t. x ∷ t) (without_all k keys all.1)

without_none_by : (k x : List Value) (keys : List (List Value)) (b : Bool) → is_same k x ≡ b → AllDiffer k (without k keys) → AllDiffer k (cond (not b) (x ∷ without k keys) (without k keys))
without_none_by k x keys true e rest = rest
without_none_by k x keys false e rest = (e, rest)

pub without_none : (k : List Value) (keys : List (List Value)) → AllDiffer k (without k keys)
without_none k [] = tt
without_none k (x ∷ keys) = without_none_by k x keys (is_same k x) refl (without_none k keys)

kept_by : (P : List Value → Type 0) (x : List Value) (keys : List (List Value)) (b : Bool) → P x → AllByRecursion P keys → AllByRecursion P (cond b (x ∷ keys) keys)
kept_by P x keys true here rest = (here, rest)
kept_by P x keys false here rest = rest

kept_all : (P : List Value → Type 0) (k : List Value) (keys : List (List Value)) → AllByRecursion P keys → AllByRecursion P (without k keys)
kept_all P k [] all = tt
kept_all P k (x ∷ keys) all = kept_by P x (without k keys) (not (is_same k x)) all.0 (kept_all P k keys all.1)

distinct_by : (x : List Value) (keys : List (List Value)) (b : Bool) → AllDiffer x keys → IsDistinct is_same keys → IsDistinct is_same (cond b (x ∷ keys) keys)
unfolding IsDistinct
distinct_by x keys true here rest = (here, rest)
distinct_by x keys false here rest = rest

distinct_without : (k : List Value) (keys : List (List Value)) → IsDistinct is_same keys → IsDistinct is_same (without k keys)
unfolding IsDistinct
distinct_without k [] distinct = tt
distinct_without k (x ∷ keys) distinct = distinct_by x (without k keys) (not (is_same k x)) (kept_all (λ z. is_same x z ≡ false) k keys distinct.0) (distinct_without k keys distinct.1)

pub firsts_distinct : (keys : List (List Value)) → IsDistinct is_same (firsts keys)
unfolding firsts IsDistinct
firsts_distinct [] = tt
firsts_distinct (a ∷ keys) = (without_none a (firsts keys), distinct_without a (firsts keys) (firsts_distinct keys))

-- What is told of joined lists, in any order, is told of records and of the same group by group.
module _ {B : Type 0} (plus : B → B → B) (T : List Record → B) (hom : (xs ys : List Record) → T (xs ++ ys) ≡ plus (T xs) (T ys))
    (assoc : (a b c : B) → plus a (plus b c) ≡ plus (plus a b) c) (comm : (a b : B) → plus a b ≡ plus b a) (width : ℕ) where
  swap : (a b c : B) → plus a (plus b c) ≡ plus b (plus a c)
  swap a b c = assoc a b c ∙ (ap (λ (z : B). plus z c) (comm a b) ∙ sym (assoc b a c))

  pulled_by : (k : List Value) (records : List Record) (x : List Value) (keys : List (List Value)) (b : Bool) → is_same k x ≡ b → AllDiffer x keys
      → (b ≡ false → T (regrouped width keys records) ≡ plus (T (members width k records)) (T (regrouped width (without k keys) records)))
      → T (members width x records ++ regrouped width keys records) ≡ plus (T (members width k records)) (T (regrouped width (cond (not b) (x ∷ without k keys) (without k keys)) records))
  pulled_by k records x keys true e differ rest =
      let same = is k x e in
      hom (members width x records) (regrouped width keys records)
      ∙ (ap (λ (z : List Value). plus (T (members width z records)) (T (regrouped width keys records))) (sym same)
      ∙ ap (λ (ks : List (List Value)). plus (T (members width k records)) (T (regrouped width ks records))) (sym (without_all k keys (subst (λ (z : List Value). AllDiffer z keys) (sym same) differ))))
  pulled_by k records x keys false e differ rest =
      hom (members width x records) (regrouped width keys records)
      ∙ (ap (plus (T (members width x records))) (rest refl)
      ∙ (swap (T (members width x records)) (T (members width k records)) (T (regrouped width (without k keys) records))
      ∙ ap (plus (T (members width k records))) (sym (hom (members width x records) (regrouped width (without k keys) records)))))

  pulled : (k : List Value) (records : List Record) (keys : List (List Value)) → IsDistinct is_same keys → (list_any (is_same k) keys ≡ false → members width k records ≡ [])
      → T (regrouped width keys records) ≡ plus (T (members width k records)) (T (regrouped width (without k keys) records))
  unfolding IsDistinct
  pulled k records [] distinct none = hom [] [] ∙ ap (λ (rs : List Record). plus (T rs) (T [])) (sym (none refl))
  pulled k records (x ∷ keys) distinct none =
      pulled_by k records x keys (is_same k x) refl distinct.0 (λ e. pulled k records keys distinct.1 (λ h. none (ap (λ (b : Bool). b || list_any (is_same k) keys) e ∙ h)))

  behind : (r : Record) (records : List Record) (keys : List (List Value)) → AllDiffer (take width r.0) keys → regrouped width keys (r ∷ records) ≡ regrouped width keys records
  behind r records [] differ = refl
  behind r records (x ∷ keys) differ =
      let here = ap (λ (b : Bool). cond b (r ∷ members width x records) (members width x records)) (laws.symm x (take width r.0) ∙ differ.0) in
      let rest = behind r records keys differ.1 in
      λ j. here j ++ rest j

  pub told_alike : (records : List Record) → T (regrouped width (keys_of width records) records) ≡ T records
  unfolding firsts
  told_alike [] = refl
  told_alike (r ∷ records) =
      let k = take width r.0 in
      let all = keys_of width records in
      let rest = without k all in
      let one : List Record = r ∷ [] in
      let own : members width k (r ∷ records) ≡ r ∷ members width k records = ap (λ (b : Bool). cond b (r ∷ members width k records) (members width k records)) (laws.refl k) in
      let others = behind r records rest (without_none k all) in
      (λ j. T (own j ++ others j))
      ∙ (hom one (members width k records ++ regrouped width rest records)
      ∙ (ap (plus (T one)) (hom (members width k records) (regrouped width rest records))
      ∙ (ap (plus (T one)) (sym (pulled k records all (firsts_distinct (map (λ (q : Record). take width q.0) records))
      (λ h. none_member (λ (q : Record). take width q.0) k records (sym (any_firsts k (map (λ (q : Record). take width q.0) records)) ∙ h))))
      ∙ (ap (plus (T one)) (told_alike records) ∙ sym (hom one records)))))

add_assoc : (a b c : ℕ) → a + (b + c) ≡ (a + b) + c
add_assoc a b c = omega arith

add_comm : (a b : ℕ) → a + b ≡ b + a
add_comm a b = omega arith

pub length_regrouped : (width : ℕ) (records : List Record) → length (regrouped width (keys_of width records) records) ≡ length records
length_regrouped width records = told_alike (λ (a b : ℕ). a + b) (λ (rs : List Record). length rs) (λ xs ys. length-append xs ys) add_assoc add_comm width records

-- the arguments of a group of fewer keys, each read by a function
module _ (n : ℕ) (key : List Value) (f : List Value → Value) where
  abbrev read : List Record → Tally
  read records = tally (map f (arguments (members n key records)))

  read_append : (xs ys : List Record) → read (xs ++ ys) ≡ join (read xs) (read ys)
  read_append xs ys =
      ap (λ (rs : List Record). tally (map f (arguments rs))) (filter-append (λ (r : Record). is_same key (take n r.0)) xs ys)
      ∙ (ap (λ (rows : List (List Value)). tally (map f rows)) (map-append (λ (r : Record). r.1) (members n key xs) (members n key ys))
      ∙ (ap tally (map-append f (arguments (members n key xs)) (arguments (members n key ys)))
      ∙ tally_append (map f (arguments (members n key xs))) (map f (arguments (members n key ys)))))

  pub read_alike : (width : ℕ) (records : List Record) → read (regrouped width (keys_of width records) records) ≡ read records
  read_alike width records = told_alike join read read_append join_assoc join_comm width records

-- Columns of groups that are told alike.

abbrev pub AllAlike : List (List (List Value)) → List (List (List Value)) → Type 0
AllAlike [] [] = Unit {0}
AllAlike [] (h ∷ hs) = ⊥
AllAlike (g ∷ gs) [] = ⊥
AllAlike (g ∷ gs) (h ∷ hs) = ((f : List Value → Value) → tally (map f g) ≡ tally (map f h)) × AllAlike gs hs

maps_alike : {B : Type 0} (q : Tally → B) (f : List Value → Value) (gs hs : List (List (List Value))) → AllAlike gs hs → map (λ vs. q (tally vs)) (map (map f) gs) ≡ map (λ vs. q (tally vs)) (map (map f) hs)
maps_alike q f [] [] alike = refl
maps_alike q f [] (h ∷ hs) alike = absurd alike
maps_alike q f (g ∷ gs) [] alike = absurd alike
maps_alike q f (g ∷ gs) (h ∷ hs) alike = λ j. q (alike.0 f j) ∷ maps_alike q f gs hs alike.1 j

column_alike : (kind : AggKind) (f : List Value → Value) (gs hs : List (List (List Value))) → AllAlike gs hs → column_of kind (map (map f) gs) ≡ column_of kind (map (map f) hs)
column_alike CountAll f gs hs alike = ap Records (maps_alike (λ t. t.records) f gs hs alike)
column_alike Count f gs hs alike = ap Values (maps_alike (λ t. t.total.values) f gs hs alike)
column_alike (Sum kind) f gs hs alike = ap Totals (maps_alike (λ t. t.total) f gs hs alike)
column_alike (Avg kind) f gs hs alike = ap Totals (maps_alike (λ t. t.total) f gs hs alike)
column_alike Min f gs hs alike = ap Least (maps_alike (λ t. t.least) f gs hs alike)
column_alike Max f gs hs alike = ap Greatest (maps_alike (λ t. t.greatest) f gs hs alike)
column_alike PropCount f gs hs alike = ap Records (maps_alike (λ t. t.records) f gs hs alike)

map_twice : {A B C : Type 0} (f : B → C) (g : A → B) (xs : List A) → map f (map g xs) ≡ map (λ x. f (g x)) xs
map_twice f g [] = refl
map_twice f g (x ∷ xs) = ap (λ t. f (g x) ∷ t) (map_twice f g xs)

rests_alike : (gs hs : List (List (List Value))) → AllAlike gs hs → AllAlike (map (map rest_of) gs) (map (map rest_of) hs)
rests_alike [] [] alike = tt
rests_alike [] (h ∷ hs) alike = absurd alike
rests_alike (g ∷ gs) [] alike = absurd alike
rests_alike (g ∷ gs) (h ∷ hs) alike = (λ f. ap tally (map_twice f rest_of g) ∙ (alike.0 (λ r. f (rest_of r)) ∙ sym (ap tally (map_twice f rest_of h))), rests_alike gs hs alike.1)

columns_alike : (kinds : List AggKind) (gs hs : List (List (List Value))) → AllAlike gs hs → columns_of kinds gs ≡ columns_of kinds hs
columns_alike [] gs hs alike = refl
columns_alike (kind ∷ kinds) gs hs alike = λ j. column_alike kind first_of gs hs alike j ∷ columns_alike kinds (map (map rest_of) gs) (map (map rest_of) hs) (rests_alike gs hs alike) j

all_alike : (g h : List Value → List (List Value)) (keys : List (List Value)) → ((k : List Value) (f : List Value → Value) → tally (map f (g k)) ≡ tally (map f (h k))) → AllAlike (map g keys) (map h keys)
all_alike g h [] e = tt
all_alike g h (k ∷ keys) e = (e k, all_alike g h keys e)

-- The keys of the records group by group.

member_by : (k : List Value) (r : Record) (ms : List Record) (n width : ℕ) (prefix : List Value) (b : Bool) → is_same k (take width r.0) ≡ b → (k ≡ take width r.0 → take n r.0 ≡ prefix)
    → AllByRecursion (λ (q : Record). take n q.0 ≡ prefix) ms → AllByRecursion (λ (q : Record). take n q.0 ≡ prefix) (cond b (r ∷ ms) ms)
member_by k r ms n width prefix true e here rest = (here (is k (take width r.0) e), rest)
member_by k r ms n width prefix false e here rest = rest

take_twice : {A : Type 0} (n width : ℕ) (xs : List A) → n ≤ width → take n (take width xs) ≡ take n xs
take_twice zero width xs h = refl
take_twice (suc n) zero xs h = absurd (omega (arith, h))
take_twice (suc n) (suc width) [] h = refl
take_twice (suc n) (suc width) (x ∷ xs) h = ap (λ t. x ∷ t) (take_twice n width xs (omega (arith, h)))

-- the members of a full list of keys have its first keys
pub members_prefix : (n width : ℕ) (k : List Value) (records : List Record) → n ≤ width → Alike n (take n k) (members width k records)
members_prefix n width k [] h = tt
members_prefix n width k (r ∷ records) h =
    member_by k r (members width k records) n width (take n k) (is_same k (take width r.0)) refl
    (λ e. sym (take_twice n width r.0 h) ∙ ap (take n) (sym e)) (members_prefix n width k records h)

members_alike : (width : ℕ) (k : List Value) (records : List Record) → Alike width k (members width k records)
members_alike width k [] = tt
members_alike width k (r ∷ records) = member_by k r (members width k records) width width k (is_same k (take width r.0)) refl (λ e. sym e) (members_alike width k records)

some_by : {A : Type 0} (r : A) (ms : List A) (b c : Bool) → (b || c) ≡ true → (c ≡ true → 0 < length ms) → 0 < length (cond b (r ∷ ms) ms)
some_by r ms true c h rest = omega arith
some_by r ms false c h rest = rest h

some_member : (width : ℕ) (k : List Value) (records : List Record) → list_any (is_same k) (map (λ (r : Record). take width r.0) records) ≡ true → 0 < length (members width k records)
some_member width k [] h = absurd (true≢false (sym h))
some_member width k (r ∷ records) h = some_by r (members width k records) (is_same k (take width r.0)) _ h (some_member width k records)

pub some_members : (width : ℕ) (k : List Value) (records : List Record) → list_any (is_same k) (keys_of width records) ≡ true → 0 < length (members width k records)
some_members width k records h = some_member width k records (sym (any_firsts k (map (λ (r : Record). take width r.0) records)) ∙ h)

all_there : (P : List Value → Type 0) (keys : List (List Value)) → ((k : List Value) → list_any (is_same k) keys ≡ true → P k) → AllByRecursion P keys
all_there P [] f = tt
all_there P (x ∷ keys) f = (f x (ap (λ (b : Bool). b || list_any (is_same x) keys) (laws.refl x)), all_there P keys (λ k h. f k (ap (λ (b : Bool). is_same k x || b) h ∙ or_true (is_same k x))))

absent_by : (b c d : Bool) → (b || c) ≡ false → (c ≡ false → d ≡ false) → (b || d) ≡ false
absent_by true c d p rest = absurd (true≢false p)
absent_by false c d p rest = rest p

absent_more : (x k : List Value) (keys : List (List Value)) → list_any (is_same x) keys ≡ false → is_same x k ≡ false → list_any (is_same x) (keys ++ k ∷ []) ≡ false
absent_more x k [] h e = ap (λ (b : Bool). b || false) e
absent_more x k (y ∷ keys) h e = absent_by (is_same x y) (list_any (is_same x) keys) (list_any (is_same x) (keys ++ k ∷ [])) h (λ p. absent_more x k keys p e)

abbrev AllAbsent : List (List Value) → List (List Value) → Type 0
AllAbsent done keys = AllByRecursion (λ x. list_any (is_same x) done ≡ false) keys

absents_more : (k : List Value) (done keys : List (List Value)) → AllAbsent done keys → AllDiffer k keys → AllAbsent (done ++ k ∷ []) keys
absents_more k done [] absent differ = tt
absents_more k done (x ∷ keys) absent differ = (absent_more x k done absent.0 (laws.symm x k ∙ differ.0), absents_more k done keys absent.1 differ.1)

keys_behind : (width : ℕ) (records done : List Record) (keys : List (List Value)) → IsDistinct is_same keys → AllAbsent (keys_of width done) keys → AllByRecursion (λ k. 0 < length (members width k records)) keys
    → keys_of width (done ++ regrouped width keys records) ≡ keys_of width done ++ keys
unfolding IsDistinct
keys_behind width records done [] distinct absent some = ap (keys_of width) (append_nil done) ∙ sym (append_nil (keys_of width done))
keys_behind width records done (k ∷ keys) distinct absent some =
    let own = keys_new width k done (members width k records) some.0 (members_alike width k records) absent.0 in
    ap (keys_of width) (sym (append_assoc done (members width k records) (regrouped width keys records)))
    ∙ (keys_behind width records (done ++ members width k records) keys distinct.1 (subst (λ (ks : List (List Value)). AllAbsent ks keys) (sym own) (absents_more k (keys_of width done) keys absent.1 distinct.0)) some.1
    ∙ (ap (λ (ks : List (List Value)). ks ++ keys) own ∙ append_assoc (keys_of width done) (k ∷ []) keys))

none_absent : (keys : List (List Value)) → AllAbsent [] keys
none_absent [] = tt
none_absent (k ∷ keys) = (refl, none_absent keys)

keys_regrouped : (width : ℕ) (records : List Record) → keys_of width (regrouped width (keys_of width records) records) ≡ keys_of width records
unfolding firsts
keys_regrouped width records =
    keys_behind width records [] (keys_of width records) (firsts_distinct (map (λ (r : Record). take width r.0) records)) (none_absent (keys_of width records))
    (all_there (λ k. 0 < length (members width k records)) (keys_of width records) (λ k h. some_members width k records h))

firsts_taken : (n width : ℕ) (records : List Record) → n ≤ width → map (take n) (map (λ (r : Record). take width r.0) records) ≡ map (λ (r : Record). take n r.0) records
firsts_taken n width [] h = refl
firsts_taken n width (r ∷ records) h = λ j. take_twice n width r.0 h j ∷ firsts_taken n width records h j

-- the shorter lists of keys are those of the longer ones
keys_shorter : (n width : ℕ) (records : List Record) → n ≤ width → keys_of n records ≡ firsts (map (take n) (keys_of width records))
keys_shorter n width records h = ap firsts (sym (firsts_taken n width records h)) ∙ sym (firsts_of_firsts (take n) (map (λ (r : Record). take width r.0) records))

short_keys_regrouped : (n width : ℕ) (records : List Record) → n ≤ width → keys_of n (regrouped width (keys_of width records) records) ≡ keys_of n records
short_keys_regrouped n width records h =
    keys_shorter n width (regrouped width (keys_of width records) records) h
    ∙ (ap (λ (ks : List (List Value)). firsts (map (take n) ks)) (keys_regrouped width records) ∙ sym (keys_shorter n width records h))

-- a table of the first n keys that holds the records group by group is as good as one that holds the records
pub keeps_alike : (n width : ℕ) (kinds : List AggKind) (keys : List (List Value)) (columns : List AggregateColumn) (records : List Record) → n ≤ width
    → Keeps n kinds keys columns (regrouped width (keys_of width records) records) → Keeps n kinds keys columns records
keeps_alike n width kinds keys columns records h keeps =
    let all = regrouped width (keys_of width records) records in
    record {
      same_keys = keeps.same_keys ∙ short_keys_regrouped n width records h;
      same_columns = keeps.same_columns
          ∙ (columns_alike kinds (groups_of n all) (map (λ key. arguments (members n key records)) (keys_of n all))
          (all_alike (λ key. arguments (members n key all)) (λ key. arguments (members n key records)) (keys_of n all) (λ key f. read_alike n key f width records))
          ∙ ap (λ (ks : List (List Value)). columns_of kinds (map (λ key. arguments (members n key records)) ks)) (short_keys_regrouped n width records h));
    }

-- A table of the first keys that takes the groups of a table one by one.

regrouped_more : (width : ℕ) (records : List Record) (keys : List (List Value)) (i : ℕ) (key : List Value) → slice_get keys i ≡ Some key
    → regrouped width (take (suc i) keys) records ≡ regrouped width (take i keys) records ++ members width key records
regrouped_more width records [] i key at = absurd (none_some key at)
regrouped_more width records (x ∷ keys) zero key at = append_nil (members width x records) ∙ ap (λ (k : List Value). members width k records) (same_some x key at)
regrouped_more width records (x ∷ keys) (suc i) key at =
    ap (λ (rs : List Record). members width x records ++ rs) (regrouped_more width records keys i key at)
    ∙ sym (append_assoc (members width x records) (regrouped width (take i keys) records) (members width key records))

regrouped_less : (width : ℕ) (records : List Record) (keys : List (List Value)) (i : ℕ) → length (regrouped width (take i keys) records) ≤ length (regrouped width keys records)
regrouped_less width records keys zero = omega arith
regrouped_less width records [] (suc i) = omega arith
regrouped_less width records (x ∷ keys) (suc i) =
    let rest = regrouped_less width records keys i in
    omega (arith, rest, length-append (members width x records) (regrouped width (take i keys) records), length-append (members width x records) (regrouped width keys records))

small_regrouped : (width : ℕ) (records : List Record) (keys : List (List Value)) → AllSmall records → AllSmall (regrouped width keys records)
small_regrouped width records [] small = tt
small_regrouped width records (x ∷ keys) small =
    small_append (members width x records) (regrouped width keys records) (kept_small (λ (r : Record). is_same x (take width r.0)) records small) (small_regrouped width records keys small)

up : (i : ℕ) → suc i ≡ i + 1
up i = omega arith

pub level_more : (n width : ℕ) (kinds : List AggKind) (keys : List (List Value)) (columns : List AggregateColumn) (all : ℕ) (records : List Record) (level_keys : List (List Value)) (level_columns : List AggregateColumn) (more_keys : List (List Value)) (more_columns : List AggregateColumn) (i : ℕ) (key : List Value)
    → n ≤ width → Stands width kinds keys columns all records → slice_get keys i ≡ Some key → Keeps n kinds level_keys level_columns (regrouped width (take i keys) records)
    → IsAdded level_keys level_columns (take n key) (λ j. changes_from level_columns j columns i) more_keys more_columns
    → Keeps n kinds more_keys more_columns (regrouped width (take (i + 1) keys) records)
level_more n width kinds keys columns all records level_keys level_columns more_keys more_columns i key h stands at keeps added =
    let done : List Record = regrouped width (take i keys) records in
    let ms : List Record = members width key records in
    let groups : List (List (List Value)) = groups_of width records in
    let level : List (List (List Value)) = groups_of n done in
    let at' : slice_get (keys_of width records) i ≡ Some key = ap (λ (ks : List (List Value)). slice_get ks i) (sym stands.keeps.same_keys) ∙ at in
    let some = some_members width key records (any_at key (keys_of width records) i at') in
    let together : regrouped width (take (suc i) keys) records ≡ done ++ ms = regrouped_more width records keys i key at in
    let less = regrouped_less width records keys (suc i) in
    let whole : length (regrouped width keys records) ≡ length records = ap (λ (ks : List (List Value)). length (regrouped width ks records)) stands.keeps.same_keys ∙ length_regrouped width records in
    let few : length (done ++ ms) < 2 ^ 63 = omega (arith, less, whole, ap length together, stands.few) in
    let small = small_append done ms (small_regrouped width records (take i keys) stands.small) (kept_small (λ (r : Record). is_same key (take width r.0)) records stands.small) in
    let here : get_or groups i [] ≡ arguments ms = get_found groups i [] (arguments ms) (get_map (λ k. arguments (members width k records)) (keys_of width records) i key at') in
    let plain = subst (λ (cs : List AggregateColumn). IsAdded (keys_of n done) cs (take n key) (λ (j : ℕ). changes_from cs j columns i) more_keys more_columns) keeps.same_columns
    (subst (λ (ks : List (List Value)). IsAdded ks level_columns (take n key) (λ (j : ℕ). changes_from level_columns j columns i) more_keys more_columns) keeps.same_keys added) in
    let brings : (λ (j : ℕ). changes_from (columns_of kinds level) j columns i) ≡ (λ (j : ℕ). brought kinds level j (arguments ms)) =
    λ t j. (ap (λ (cs : List AggregateColumn). changes_from (columns_of kinds level) j cs i) stands.keeps.same_columns ∙ (group_brings kinds level j groups i ∙ ap (brought kinds level j) here)) t in
    subst (λ (rs : List Record). Keeps n kinds more_keys more_columns rs) (sym together ∙ ap (λ (k : ℕ). regrouped width (take k keys) records) (up i))
    (keeps_added n (take n key) kinds done ms (members_prefix n width key records h) some small few more_keys more_columns
    (subst (λ (changes : ℕ → List Change). IsAdded (keys_of n done) (columns_of kinds level) (take n key) changes more_keys more_columns) brings plain))

pub level_done : (n width : ℕ) (kinds : List AggKind) (keys : List (List Value)) (columns : List AggregateColumn) (all : ℕ) (records : List Record) (level_keys : List (List Value)) (level_columns : List AggregateColumn) (i : ℕ)
    → n ≤ width → Stands width kinds keys columns all records → length keys ≤ i → Keeps n kinds level_keys level_columns (regrouped width (take i keys) records) → Keeps n kinds level_keys level_columns records
level_done n width kinds keys columns all records level_keys level_columns i h stands low keeps =
    keeps_alike n width kinds level_keys level_columns records h
    (subst (λ (ks : List (List Value)). Keeps n kinds level_keys level_columns (regrouped width ks records)) (take_all i keys low ∙ stands.keeps.same_keys) keeps)
