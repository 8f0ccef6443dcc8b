-- The table with records more.
use Rattle.std.proofs.Common.{◌≡◌, ℕ, ◌+◌, ◌≤◌, ◌<◌, ◌^◌, zero, suc, Bool, true, false, cond, ◌||◌, if◌then◌else◌, List, [], ◌∷◌, ◌++◌, map, take, length, get_or, slice_set, slice_get, Some, arith, refl, sym, ◌∙◌, ap, subst, inl, inr}
use Rattle.std.specs.List.{list_any, IsDistinct, AllByRecursion}
use Rattle.std.proofs.Math.Nat.{eq-or-lt_of_le}
use Rattle.std.proofs.lemmas.List.{map-append, take_all, append_assoc, length-append, length-map}
use Rattle.std.proofs.lemmas.List.Elements.{filter-append}
use Rattle.indexmap.specs.IndexSet.{insert_key}
use Rattle.lp_values.specs.declared.value.Value.{Value}
use Rattle.lp_values.specs.declared.group.AggKind.{AggKind}
use Rattle.group_rollup.specs.declared.changes.Change.{Change}
use Rattle.group_rollup.specs.declared.column.AggregateColumn.{AggregateColumn}
use Rattle.group_rollup.specs.Groups.{Record, is_same, firsts, keys_of, members, arguments}
use Rattle.group_rollup.specs.Columns.{columns_of, AllHave, begun, all_applied, changes_by, no_column}
use Rattle.group_rollup.specs.Tables.{Table, Holds, Keeps, IsAdded, AreSmall, AllSmall, groups_of}
use Rattle.group_rollup.proofs.ColumnLemmas.{RowsRoom, brought, columns_known, columns_new, record_brings, columns_none, all_have_applied, all_have_begun, length_applied}
use Rattle.group_rollup.proofs.FirstsLemmas.{laws, firsts_more, any_firsts, none_member, map_alike, map_set, none_same, none_some, same_some}
use Rattle.group_rollup.proofs.Places.{get_found}
use Rattle.group_rollup.proofs.RoomLemmas.{small_append, kept_small, kept_less}

pub insert_absent : {T : Type 0} (eq : T → T → Bool) (keys : List T) (key : T) → list_any (eq key) keys ≡ false → insert_key eq keys key ≡ keys ++ key ∷ []
insert_absent eq keys key absent = ap (λ (b : Bool). if b then keys else keys ++ key ∷ []) absent

insert_present : {T : Type 0} (eq : T → T → Bool) (keys : List T) (key : T) → list_any (eq key) keys ≡ true → insert_key eq keys key ≡ keys
insert_present eq keys key there = ap (λ (b : Bool). if b then keys else keys ++ key ∷ []) there

pub append_nil : {A : Type 0} (l : List A) → l ++ [] ≡ l
append_nil [] = refl
append_nil (x ∷ xs) = ap (λ t. x ∷ t) (append_nil xs)

pub get_map : {A B : Type 0} (f : A → B) (xs : List A) (i : ℕ) (x : A) → slice_get xs i ≡ Some x → slice_get (map f xs) i ≡ Some (f x)
get_map f [] i x at = absurd (none_some x at)
get_map f (y ∷ xs) zero x at = ap (λ z. Some (f z)) (same_some y x at)
get_map f (y ∷ xs) (suc i) x at = get_map f xs i x at

pub or_true : (b : Bool) → (b || true) ≡ true
or_true true = refl
or_true false = refl

any_last : (key : List Value) (keys : List (List Value)) → list_any (is_same key) (keys ++ key ∷ []) ≡ true
any_last key [] = ap (λ (b : Bool). b || false) (laws.refl key)
any_last key (k ∷ keys) = ap (λ (b : Bool). is_same key k || b) (any_last key keys) ∙ or_true (is_same key k)

pub any_at : (key : List Value) (keys : List (List Value)) (i : ℕ) → slice_get keys i ≡ Some key → list_any (is_same key) keys ≡ true
any_at key [] i at = absurd (none_some key at)
any_at key (k ∷ keys) zero at = ap (λ (b : Bool). b || list_any (is_same key) keys) (ap (is_same key) (same_some k key at) ∙ laws.refl key)
any_at key (k ∷ keys) (suc i) at = ap (λ (b : Bool). is_same key k || b) (any_at key keys i at) ∙ or_true (is_same key k)

-- records with one list of keys, behind others
module _ (n : ℕ) (key : List Value) where
  abbrev pub Alike : List Record → Type 0
  Alike ms = AllByRecursion (λ (r : Record). take n r.0 ≡ key) ms

  abbrev pub rows_in : List Record → List Value → List (List Value)
  rows_in all k = arguments (members n k all)

  own_members : (k : List Value) (b : Bool) → is_same k key ≡ b → (ms : List Record) → Alike ms → members n k ms ≡ cond b ms []
  own_members k true e [] alike = refl
  own_members k false e [] alike = refl
  own_members k true e (m ∷ ms) alike = ap (λ (c : Bool). cond c (m ∷ members n k ms) (members n k ms)) (ap (is_same k) alike.0 ∙ e) ∙ ap (λ t. m ∷ t) (own_members k true e ms alike.1)
  own_members k false e (m ∷ ms) alike = ap (λ (c : Bool). cond c (m ∷ members n k ms) (members n k ms)) (ap (is_same k) alike.0 ∙ e) ∙ own_members k false e ms alike.1

  more_rows : (records ms : List Record) (k : List Value) (b : Bool) → is_same k key ≡ b → Alike ms → rows_in (records ++ ms) k ≡ rows_in records k ++ arguments (cond b ms [])
  more_rows records ms k b e alike =
      ap arguments (filter-append (λ (r : Record). is_same k (take n r.0)) records ms)
      ∙ (map-append (λ (r : Record). r.1) (members n k records) (members n k ms) ∙ ap (λ (rs : List Record). rows_in records k ++ arguments rs) (own_members k b e ms alike))

  pub other_rows : (records ms : List Record) (k : List Value) → Alike ms → is_same k key ≡ false → rows_in (records ++ ms) k ≡ rows_in records k
  other_rows records ms k alike e = more_rows records ms k false e alike ∙ append_nil (rows_in records k)

  pub own_rows : (records ms : List Record) → Alike ms → rows_in (records ++ ms) key ≡ rows_in records key ++ arguments ms
  own_rows records ms alike = more_rows records ms key true (laws.refl key) alike

  key_more : (records : List Record) (r : Record) → take n r.0 ≡ key → keys_of n (records ++ r ∷ []) ≡ insert_key is_same (keys_of n records) key
  key_more records r e =
      ap firsts (map-append (λ (q : Record). take n q.0) records (r ∷ []) ∙ ap (λ k. map (λ (q : Record). take n q.0) records ++ k ∷ []) e)
      ∙ firsts_more (map (λ (q : Record). take n q.0) records) key

  pub keys_known : (records ms : List Record) → Alike ms → list_any (is_same key) (keys_of n records) ≡ true → keys_of n (records ++ ms) ≡ keys_of n records
  keys_known records [] alike there = ap (keys_of n) (append_nil records)
  keys_known records (m ∷ ms) alike there =
      let same = key_more records m alike.0 ∙ insert_present is_same (keys_of n records) key there in
      ap (keys_of n) (sym (append_assoc records (m ∷ []) ms))
      ∙ (keys_known (records ++ m ∷ []) ms alike.1 (ap (list_any (is_same key)) same ∙ there) ∙ same)

  pub keys_new : (records ms : List Record) → 0 < length ms → Alike ms → list_any (is_same key) (keys_of n records) ≡ false → keys_of n (records ++ ms) ≡ keys_of n records ++ key ∷ []
  keys_new records [] some alike absent = absurd (omega (arith, some))
  keys_new records (m ∷ ms) some alike absent =
      let same = key_more records m alike.0 ∙ insert_absent is_same (keys_of n records) key absent in
      ap (keys_of n) (sym (append_assoc records (m ∷ []) ms))
      ∙ (keys_known (records ++ m ∷ []) ms alike.1 (ap (list_any (is_same key)) same ∙ any_last key (keys_of n records)) ∙ same)

  pub rows_room : (records : List Record) (k : List Value) → AllSmall records → length records < 2 ^ 63 → RowsRoom (rows_in records k)
  rows_room records k small few =
      let less = kept_less (λ (r : Record). is_same k (take n r.0)) records in
      record { small = kept_small (λ (r : Record). is_same k (take n r.0)) records small; few = omega (arith, less, few, length-map (members n k records) (λ (r : Record). r.1)) }

  module _ (kinds : List AggKind) (records ms : List Record) (alike : Alike ms) (some : 0 < length ms) (small : AllSmall (records ++ ms)) (few : length (records ++ ms) < 2 ^ 63)
      (more_keys : List (List Value)) (more_columns : List AggregateColumn) where
    abbrev old_keys : List (List Value)
    old_keys = keys_of n records

    abbrev old_groups : List (List (List Value))
    old_groups = groups_of n records

    abbrev rows : List (List Value)
    rows = arguments ms

    put_known : (i : ℕ) → IsDistinct is_same old_keys → slice_get old_keys i ≡ Some key → more_keys ≡ old_keys → more_columns ≡ all_applied (columns_of kinds old_groups) i (brought kinds old_groups i rows)
        → Keeps n kinds more_keys more_columns (records ++ ms)
    put_known i distinct at p q =
        let there = any_at key old_keys i at in
        let same = keys_known records ms alike there in
        let here : get_or old_groups i [] ≡ rows_in records key = get_found old_groups i [] (rows_in records key) (get_map (rows_in records) old_keys i key at) in
        let whole : get_or old_groups i [] ++ rows ≡ rows_in (records ++ ms) key = ap (λ (us : List (List Value)). us ++ rows) here ∙ sym (own_rows records ms alike) in
        record {
          same_keys = p ∙ sym same;
          same_columns = q ∙ (columns_known kinds old_groups i rows (subst RowsRoom (sym whole) (rows_room (records ++ ms) key small few))
              ∙ (ap (λ (us : List (List Value)). columns_of kinds (slice_set old_groups i us)) whole
              ∙ (ap (columns_of kinds) (sym (map_set (rows_in records) (rows_in (records ++ ms)) key old_keys i distinct at (λ k e. other_rows records ms k alike e)))
              ∙ ap (λ (ks : List (List Value)). columns_of kinds (map (rows_in (records ++ ms)) ks)) (sym same))));
        }

    put_new : (i : ℕ) → i ≡ length old_keys → list_any (is_same key) old_keys ≡ false → more_keys ≡ old_keys ++ key ∷ [] → more_columns ≡ all_applied (map begun (columns_of kinds old_groups)) i (brought kinds old_groups i rows)
        → Keeps n kinds more_keys more_columns (records ++ ms)
    put_new i e absent p q =
        let same = keys_new records ms some alike absent in
        let before : members n key records ≡ [] = none_member (λ (r : Record). take n r.0) key records (sym (any_firsts key (map (λ (r : Record). take n r.0) records)) ∙ absent) in
        let whole : rows_in (records ++ ms) key ≡ rows = own_rows records ms alike ∙ ap (λ (rs : List Record). arguments rs ++ rows) before in
        let others = map_alike (rows_in records) (rows_in (records ++ ms)) key old_keys (λ k f. other_rows records ms k alike f) (none_same key old_keys absent) in
        let all : map (rows_in (records ++ ms)) (old_keys ++ key ∷ []) ≡ old_groups ++ rows ∷ [] = map-append (rows_in (records ++ ms)) old_keys (key ∷ []) ∙ (λ j. others j ++ whole j ∷ []) in
        record {
          same_keys = p ∙ sym same;
          same_columns = q ∙ (columns_new kinds old_groups i rows (length-map old_keys (rows_in records) ∙ sym e) (subst RowsRoom whole (rows_room (records ++ ms) key small few))
              ∙ (ap (columns_of kinds) (sym all) ∙ ap (λ (ks : List (List Value)). columns_of kinds (map (rows_in (records ++ ms)) ks)) (sym same)));
        }

    pub keeps_added : IsAdded old_keys (columns_of kinds old_groups) key (λ i. brought kinds old_groups i rows) more_keys more_columns → Keeps n kinds more_keys more_columns (records ++ ms)
    keeps_added added = elim (eq-or-lt_of_le added.place.within) [
      | inl e ↦ put_new added.index e (added.place.absent e) (added.put.absent e).0 (added.put.absent e).1
      | inr h ↦ put_known added.index added.place.distinct (added.place.known h) (added.put.known h).0 (added.put.known h).1
    ]

-- with a record more
pub keeps_record : (n : ℕ) (kinds : List AggKind) (records : List Record) (key values : List Value) (keys : List (List Value)) (columns : List AggregateColumn) (more_keys : List (List Value)) (more_columns : List AggregateColumn)
    → take n key ≡ key → AllSmall (records ++ (key, values) ∷ []) → length (records ++ (key, values) ∷ []) < 2 ^ 63 → Keeps n kinds keys columns records
    → IsAdded keys columns key (λ i. changes_by columns i values) more_keys more_columns → Keeps n kinds more_keys more_columns (records ++ (key, values) ∷ [])
keeps_record n kinds records key values keys columns more_keys more_columns whole small few keeps added =
    let plain = subst (λ (cs : List AggregateColumn). IsAdded (keys_of n records) cs key (λ i. changes_by cs i values) more_keys more_columns) keeps.same_columns
    (subst (λ (ks : List (List Value)). IsAdded ks columns key (λ i. changes_by columns i values) more_keys more_columns) keeps.same_keys added) in
    let last : List Record = (key, values) ∷ [] in
    let one : 0 < length last = omega arith in
    let brings : (λ (i : ℕ). changes_by (columns_of kinds (groups_of n records)) i values) ≡ (λ (i : ℕ). brought kinds (groups_of n records) i (values ∷ [])) = λ j i. record_brings kinds (groups_of n records) i values j in
    keeps_added n key kinds records ((key, values) ∷ []) (whole, tt) one small few more_keys more_columns
    (subst (λ (changes : ℕ → List Change). IsAdded (keys_of n records) (columns_of kinds (groups_of n records)) key changes more_keys more_columns) brings plain)

pub holds_more : (width : ℕ) (kinds : List AggKind) (rollup : Bool) (records : List Record) (key values : List Value) (old new : Table)
    → Holds width kinds rollup old records → length key ≡ old.width → AreSmall values → old.records + 1 < 2 ^ 63
    → IsAdded old.keys old.columns key (λ i. changes_by old.columns i values) new.keys new.columns → new.width ≡ old.width → new.kinds ≡ old.kinds → new.rollup ≡ old.rollup → new.records ≡ old.records + 1
    → Holds width kinds rollup new (records ++ (key, values) ∷ [])
holds_more width kinds rollup records key values old new h long small few added wide asked rolls count =
    let whole : take width key ≡ key = take_all width key (le_of (long ∙ h.wide)) in
    let more : length (records ++ (key, values) ∷ []) ≡ length records + 1 = length-append records ((key, values) ∷ []) in
    let all = small_append records ((key, values) ∷ []) h.small (small, tt) in
    record {
      wide = wide ∙ h.wide;
      asked = asked ∙ h.asked;
      rolls = rolls ∙ h.rolls;
      count = count ∙ (ap (λ n. n + 1) h.count ∙ sym more);
      small = all;
      keeps = keeps_record width kinds records key values old.keys old.columns new.keys new.columns whole all (few_of h.count few more) h.keeps added;
    }
  where
    le_of : length key ≡ width → length key ≤ width
    le_of e = omega (arith, e)

    few_of : old.records ≡ length records → old.records + 1 < 2 ^ 63 → length (records ++ (key, values) ∷ []) ≡ length records + 1 → length (records ++ (key, values) ∷ []) < 2 ^ 63
    few_of e f g = omega (arith, e, f, g)

pub keeps_none : (n : ℕ) (kinds : List AggKind) (keys : List (List Value)) (columns : List AggregateColumn) → keys ≡ [] → columns ≡ map no_column kinds → Keeps n kinds keys columns []
unfolding firsts
keeps_none n kinds keys columns p q = record { same_keys = p; same_columns = q ∙ columns_none kinds }

pub holds_none : (table : Table) → table.keys ≡ [] → table.columns ≡ map no_column table.kinds → table.records ≡ 0 → Holds table.width table.kinds table.rollup table []
holds_none table p q r = record { wide = refl; asked = refl; rolls = refl; count = r; small = tt; keeps = keeps_none table.width table.kinds table.keys table.columns p q }

-- each column has as many places as there are keys
pub have_added : (keys : List (List Value)) (columns : List AggregateColumn) (key : List Value) (changes : ℕ → List Change) (more_keys : List (List Value)) (more_columns : List AggregateColumn)
    → AllHave (length keys) columns → IsAdded keys columns key changes more_keys more_columns → AllHave (length more_keys) more_columns × (length more_columns ≡ length columns)
have_added keys columns key changes more_keys more_columns all added = elim (eq-or-lt_of_le added.place.within) [
  | inl e ↦ at_end (added.put.absent e).0 (added.put.absent e).1
  | inr h ↦ in_place (added.put.known h).0 (added.put.known h).1
]
  where
    at_end : more_keys ≡ keys ++ key ∷ [] → more_columns ≡ all_applied (map begun columns) added.index (changes added.index) → AllHave (length more_keys) more_columns × (length more_columns ≡ length columns)
    at_end p q =
        let longer : length keys + 1 ≡ length more_keys = sym (ap length p ∙ length-append keys (key ∷ [])) in (
          subst (λ (cs : List AggregateColumn). AllHave (length more_keys) cs) (sym q) (all_have_applied (length more_keys) (map begun columns) added.index (changes added.index) (subst (λ (n : ℕ). AllHave n (map begun columns)) longer (all_have_begun (length keys) columns all))),
          ap length q ∙ (length_applied (map begun columns) added.index (changes added.index) ∙ length-map columns begun),
        )

    in_place : more_keys ≡ keys → more_columns ≡ all_applied columns added.index (changes added.index) → AllHave (length more_keys) more_columns × (length more_columns ≡ length columns)
    in_place p q = (
      subst (λ (cs : List AggregateColumn). AllHave (length more_keys) cs) (sym q) (all_have_applied (length more_keys) columns added.index (changes added.index) (subst (λ (n : ℕ). AllHave n columns) (sym (ap length p)) all)),
      ap length q ∙ length_applied columns added.index (changes added.index),
    )
