-- The rows that a table hands out are those of its groups.
use Rattle.std.proofs.Common.{◌≡◌, ◌<◌, ◌+◌, ◌-◌, ◌≤◌, ◌^◌, ℕ, zero, suc, Bool, if◌then◌else◌, List, [], ◌∷◌, ◌++◌, map, drop, length, replicate, get_or, slice_get, Some, refl, sym, ◌∙◌, ap, subst, arith, is_some, true, false, true≢false}
use Rattle.std.proofs.Math.Seq.{drop-cons}
use Rattle.lp_values.specs.declared.value.Value.{Value}
use Rattle.lp_values.specs.declared.value.Value.TheVariants.{Null}
use Rattle.lp_values.specs.declared.group.AggKind.{AggKind}
use Rattle.lp_values.specs.declared.group.GroupRow.{GroupRow}
use Rattle.group_rollup.specs.declared.column.AggregateColumn.{AggregateColumn}
use Rattle.group_rollup.specs.Groups.{Record, firsts, keys_of, members, arguments, aggregates, group_of, groups_at, grouped, shorter}
use Rattle.group_rollup.specs.Columns.{columns_of}
use Rattle.group_rollup.specs.HandedOut.{row_of, rows_of, rows_or_one, handed}
use Rattle.group_rollup.specs.Tables.{Table, Holds, Keeps, Stands, AllSmall}
use Rattle.group_rollup.proofs.ColumnLemmas.{RowsRoom, all_finished_is}
use Rattle.group_rollup.proofs.FirstsLemmas.{laws}
use Rattle.group_rollup.proofs.Places.{get_found}
use Rattle.group_rollup.proofs.TableLemmas.{Alike, append_nil, keys_known, rows_room, get_map}

up : (i : ℕ) → suc i ≡ i + 1
up i = omega arith

pub rows_next : (dropped : ℕ) (kinds : List AggKind) (all : ℕ) (columns : List AggregateColumn) (keys : List (List Value)) (i : ℕ) → i < length keys
    → rows_of dropped kinds all columns (drop i keys) i ≡ row_of dropped kinds all columns (get_or keys i []) i ∷ rows_of dropped kinds all columns (drop (i + 1) keys) (i + 1)
rows_next dropped kinds all columns keys i low =
    ap (λ (ks : List (List Value)). rows_of dropped kinds all columns ks i) (drop-cons keys i [] low)
    ∙ ap (λ (k : ℕ). row_of dropped kinds all columns (get_or keys i []) i ∷ rows_of dropped kinds all columns (drop k keys) (i + 1)) (up i)

nothing_first : {A : Type 0} (k : A) (ks : List A) → [] ≡ k ∷ ks → ⊥
nothing_first k ks e = true≢false (sym (ap (λ (l : List _). is_some (slice_get l 0)) e))

first_dropped : {A : Type 0} (xs : List A) (i : ℕ) (x : A) (rest : List A) → drop i xs ≡ x ∷ rest → slice_get xs i ≡ Some x
first_dropped xs zero x rest e = ap (λ (l : List _). slice_get l 0) e
first_dropped [] (suc i) x rest e = absurd (nothing_first x rest e)
first_dropped (y ∷ xs) (suc i) x rest e = first_dropped xs i x rest e

rest_dropped : {A : Type 0} (xs : List A) (i : ℕ) (x : A) (rest : List A) → drop i xs ≡ x ∷ rest → drop (suc i) xs ≡ rest
rest_dropped xs zero x rest e = ap (λ (l : List _). drop 1 l) e
rest_dropped [] (suc i) x rest e = absurd (nothing_first x rest e)
rest_dropped (y ∷ xs) (suc i) x rest e = rest_dropped xs i x rest e

module _ (width n : ℕ) (kinds : List AggKind) (records : List Record) (small : AllSmall records) (few : length records < 2 ^ 63) where
  rows_made : (all_keys keys : List (List Value)) (i : ℕ) → drop i all_keys ≡ keys
      → rows_of (width - n) kinds (length records) (columns_of kinds (map (λ key. arguments (members n key records)) all_keys)) keys i ≡ map (group_of width kinds records n) keys
  rows_made all_keys [] i e = refl
  rows_made all_keys (key ∷ keys) i e =
      let groups : List (List (List Value)) = map (λ k. arguments (members n k records)) all_keys in
      let here : get_or groups i [] ≡ arguments (members n key records) = get_found groups i [] _ (get_map (λ k. arguments (members n k records)) all_keys i key (first_dropped all_keys i key keys e)) in
      let values = all_finished_is kinds (length records) groups i (subst RowsRoom (sym here) (rows_room n key records key small few)) ∙ ap (aggregates kinds (length records)) here in
      let rest = rows_made all_keys keys (i + 1) (ap (λ (k : ℕ). drop k all_keys) (sym (up i)) ∙ rest_dropped all_keys i key keys e) in
      λ j. record { keys = key ++ replicate (width - n) Null; dropped = width - n; aggregates = values j } ∷ rest j

  pub all_made : (keys : List (List Value)) (columns : List AggregateColumn) → Keeps n kinds keys columns records
      → rows_of (width - n) kinds (length records) columns keys 0 ≡ map (group_of width kinds records n) (keys_of n records)
  all_made keys columns keeps =
      (λ j. rows_of (width - n) kinds (length records) (keeps.same_columns j) (keeps.same_keys j) 0)
      ∙ rows_made (keys_of n records) (keys_of n records) 0 refl

no_keys : (records : List Record) → Alike 0 [] records
no_keys [] = tt
no_keys (r ∷ records) = (refl, no_keys records)

one_key : (r : Record) (records : List Record) → keys_of 0 (r ∷ records) ≡ [] ∷ []
unfolding firsts
one_key r records = keys_known 0 [] (r ∷ []) records (no_keys records) (ap (λ b. b) (laws.refl []))

no_room : RowsRoom []
no_room = record { small = tt; few = omega arith }

pub handed_is : (width n : ℕ) (kinds : List AggKind) (records : List Record) (keys : List (List Value)) (columns : List AggregateColumn) → AllSmall records → length records < 2 ^ 63 → Keeps n kinds keys columns records
    → handed n (width - n) kinds (length records) columns keys ≡ groups_at width kinds records n
unfolding firsts
handed_is width (suc n) kinds records keys columns small few keeps = all_made width (suc n) kinds records small few keys columns keeps
handed_is width zero kinds [] keys columns small few keeps =
    (λ j. rows_or_one (width - 0) kinds 0 (keeps.same_columns j) (keeps.same_keys j))
    ∙ (λ j. record { keys = replicate (width - 0) Null; dropped = width - 0; aggregates = all_finished_is kinds 0 [] 0 no_room j } ∷ [])
handed_is width zero kinds (r ∷ records) keys columns small few keeps =
    let one = keeps.same_keys ∙ one_key r records in
    ap (rows_or_one (width - 0) kinds (length (r ∷ records)) columns) one
    ∙ (sym (ap (λ (ks : List (List Value)). rows_of (width - 0) kinds (length (r ∷ records)) columns ks 0) one)
    ∙ (all_made width 0 kinds (r ∷ records) small few keys columns keeps ∙ ap (map (group_of width kinds (r ∷ records) 0)) (one_key r records)))

one_less : (m : ℕ) → m ≡ suc m - 1
one_less m = omega arith

pub shorter_step : (width : ℕ) (kinds : List AggKind) (records : List Record) (m : ℕ) → 0 < m → shorter width kinds records m ≡ groups_at width kinds records (m - 1) ++ shorter width kinds records (m - 1)
unfolding shorter
shorter_step width kinds records zero h = absurd (omega (arith, h))
shorter_step width kinds records (suc m) h = ap (λ (k : ℕ). groups_at width kinds records k ++ shorter width kinds records k) (one_less m)

pub shorter_none : (width : ℕ) (kinds : List AggKind) (records : List Record) (m : ℕ) → m ≤ 0 → shorter width kinds records m ≡ []
unfolding shorter
shorter_none width kinds records zero h = refl
shorter_none width kinds records (suc m) h = absurd (omega (arith, h))

-- the rows of a level are its groups
pub level_handed : (width n all : ℕ) (kinds : List AggKind) (records : List Record) (keys : List (List Value)) (columns : List AggregateColumn) → AllSmall records → length records < 2 ^ 63 → all ≡ length records → Keeps n kinds keys columns records
    → handed n (width - n) kinds all columns keys ≡ groups_at width kinds records n
level_handed width n all kinds records keys columns small few count keeps =
    ap (λ (a : ℕ). handed n (width - n) kinds a columns keys) count ∙ handed_is width n kinds records keys columns small few keeps

pub stands_at : (width : ℕ) (kinds : List AggKind) (rollup : Bool) (records : List Record) (t : Table) (ks : List AggKind) → Holds width kinds rollup t records → t.records < 2 ^ 63 → ks ≡ t.kinds
    → Stands t.width ks t.keys t.columns t.records records
stands_at width kinds rollup records t ks h low e =
    subst (λ (w : ℕ). Stands w ks t.keys t.columns t.records records) (sym h.wide)
    (subst (λ (k : List AggKind). Stands width k t.keys t.columns t.records records) (sym (e ∙ h.asked))
    (record { keeps = h.keeps; small = h.small; count = h.count; few = subst (λ (n : ℕ). n < 2 ^ 63) h.count low }))

none_left : (n : ℕ) → 0 ≡ n - n
none_left n = omega arith

pub full_rows : (width : ℕ) (kinds : List AggKind) (rollup : Bool) (records : List Record) (t : Table) (ks : List AggKind) (none rows : List GroupRow) → Holds width kinds rollup t records → t.records < 2 ^ 63 → ks ≡ t.kinds
    → none ≡ [] → rows ≡ none ++ handed t.width 0 ks t.records t.columns t.keys → rows ≡ groups_at width kinds records width
full_rows width kinds rollup records t ks none rows h low e empty given =
    let few = subst (λ (n : ℕ). n < 2 ^ 63) h.count low in
    given
    ∙ (ap (λ (l : List GroupRow). l ++ handed t.width 0 ks t.records t.columns t.keys) empty
    ∙ ((λ j. handed (h.wide j) (none_left width j) ((e ∙ h.asked) j) t.records t.columns t.keys)
    ∙ level_handed width width t.records kinds records t.keys t.columns h.small few h.count h.keeps))

pub plain_rows : (width : ℕ) (kinds : List AggKind) (rollup : Bool) (records : List Record) (rows : List GroupRow) → rollup ≡ false → rows ≡ groups_at width kinds records width → rows ≡ grouped width kinds rollup records
plain_rows width kinds rollup records rows e given =
    given ∙ (sym (append_nil (groups_at width kinds records width))
    ∙ ap (λ (b : Bool). groups_at width kinds records width ++ (if b then shorter width kinds records width else [])) (sym e))

pub rolled_rows : (width : ℕ) (kinds : List AggKind) (rollup : Bool) (records : List Record) (t : Table) (ks : List AggKind) (rows more : List GroupRow) → Holds width kinds rollup t records → ks ≡ t.kinds → rollup ≡ true
    → rows ≡ groups_at width kinds records width → more ≡ rows ++ shorter t.width ks records t.width → more ≡ grouped width kinds rollup records
rolled_rows width kinds rollup records t ks rows more h e rolls given behind =
    behind
    ∙ ((λ j. given j ++ shorter (h.wide j) ((e ∙ h.asked) j) records (h.wide j))
    ∙ ap (λ (b : Bool). groups_at width kinds records width ++ (if b then shorter width kinds records width else [])) (sym rolls))
