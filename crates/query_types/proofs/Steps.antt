-- Steps along lists.
use Rattle.std.proofs.Common.{◌≡◌, ℕ, zero, suc, ◌+◌, ◌<◌, ◌≤◌, Bool, List, [], ◌∷◌, ◌++◌, length, take, drop, get_or, map, Option, Some, None, Ok, Err, refl, sym, ◌∙◌, ap, arith, add-one, append_assoc, length-append}
use Rattle.std.proofs.Math.Seq.{drop-cons, take-length}
use Rattle.std.proofs.lemmas.List.{take-append-le, length-take-le, append-nil}
use Rattle.grammar.specs.Trees.{Tree, Item}
use Rattle.grammar.specs.Trees.{trees_of as listed}
use Rattle.lp_values.specs.declared.kind.Kind.{Kind}
use Rattle.lp_values.specs.declared.value.Value.{Value}
use Rattle.query_tree.specs.Views.{tree_of, item_of}
use Rattle.query_tree.specs.declared.expression.Expr.{Expr}
use Rattle.query_tree.specs.declared.query.Item.{Item as Given}
use Rattle.query_types.specs.declared.alias.Alias.{Alias}
use Rattle.query_types.specs.Terms.{Term}
use Rattle.query_types.specs.Terms.{column}
use Rattle.query_types.specs.declared.fault.TypeFault.{TypeFault}
use Rattle.query_types.specs.declared.table.TableColumns.{TableColumns}
use Rattle.query_types.specs.Meanings.{added, joined, meant}
use Rattle.query_types.specs.Conditions.{Filter, fitting, all_fitting}
use Rattle.query_types.specs.Planned.{with_alias, with_aliases, in_force, selected, columns_from, used_from, count_alias}
use Rattle.query_types.proofs.Answering.{joined_one}

-- what is left begins with the one at this place
dropped : {A : Type 0} (xs : List A) (i : ℕ) (x : A) → i < length xs → x ≡ get_or xs i x → drop i xs ≡ x ∷ drop (i + 1) xs
dropped xs i x here is = rw add-one (drop-cons xs i x here ∙ ap (λ y. y ∷ drop (suc i) xs) (sym is))

-- what is left begins with some one
some_left : {A : Type 0} (xs : List A) (i : ℕ) → i < length xs → (x : A) × (drop i xs ≡ x ∷ drop (i + 1) xs)
some_left [] i here = absurd (omega arith)
some_left (x ∷ xs) zero here = (x, refl)
some_left {A} (x ∷ xs) (suc i) here =
    let past = some_left xs i (omega arith) in
    let e : suc (i + 1) ≡ suc i + 1 = omega arith in
    (past.0, past.1 ∙ ap (λ n. past.0 ∷ drop n (x ∷ xs)) e)

pub columns_step : {A : Type 0} (columns : List A) (i : ℕ) (front : List Term) → i < length columns
    → front ++ columns_from i (drop i columns) ≡ (front ++ column i ∷ []) ++ columns_from (i + 1) (drop (i + 1) columns)
columns_step columns i front here =
    let left = some_left columns i here in
    ap (λ rest. front ++ columns_from i rest) left.1 ∙ sym (append_assoc front (column i ∷ []) (columns_from (i + 1) (drop (i + 1) columns)))

pub used_step : {A : Type 0} (columns : List A) (i : ℕ) (front : List Bool) (aliased items : List Term) (filter : Option Filter) (u : Bool) → i < length columns
    → ((c : A) (rest : List A) → used_from i (c ∷ rest) aliased items filter ≡ u ∷ used_from (i + 1) rest aliased items filter)
    → front ++ used_from i (drop i columns) aliased items filter ≡ (front ++ u ∷ []) ++ used_from (i + 1) (drop (i + 1) columns) aliased items filter
used_step columns i front aliased items filter u here one =
    let left = some_left columns i here in
    ap (λ rest. front ++ used_from i rest aliased items filter) left.1
    ∙ ap (λ rest. front ++ rest) (one left.0 (drop (i + 1) columns))
    ∙ sym (append_assoc front (u ∷ []) (used_from (i + 1) (drop (i + 1) columns) aliased items filter))

-- the values of an IN stop at one that has a fault
pub fitting_stops : (table : TableColumns) (moment : Value) (aliases : List Alias) (kind : Kind) (front : List Term) (items : List Expr) (i : ℕ) (item : Expr) (fault : TypeFault)
    → i < length items → item ≡ get_or items i item → fitting table moment aliases kind (tree_of item) ≡ Err fault
    → joined front (all_fitting table moment aliases kind (listed (map tree_of (drop i items)))) ≡ Err fault
fitting_stops table moment aliases kind front items i item fault here is found =
    ap (λ rest. joined front (all_fitting table moment aliases kind (listed (map tree_of rest)))) (dropped items i item here is)
    ∙ ap (λ r. joined front (added r (all_fitting table moment aliases kind (listed (map tree_of (drop (i + 1) items)))))) found

alias_length : (table : TableColumns) (moment : Value) (before : List Alias) (alias : Option (List ℕ)) (value : Tree) → length (with_alias table moment before alias value) ≡ length before + count_alias alias
alias_length table moment before None value = omega arith
alias_length table moment before (Some name) value = length-append before _

alias_extends : (table : TableColumns) (moment : Value) (before : List Alias) (alias : Option (List ℕ)) (value : Tree) → (more : List Alias) × (with_alias table moment before alias value ≡ before ++ more)
alias_extends table moment before None value = ([], sym (append-nil before))
alias_extends table moment before (Some name) value = (record { name = name; meaning = meant table moment before value } ∷ [], refl)

-- further aliases stand behind
extended : (table : TableColumns) (moment : Value) (before : List Alias) (items : List Item) → (more : List Alias) × (with_aliases table moment before items ≡ before ++ more)
extended table moment before [] = ([], sym (append-nil before))
extended table moment before (item ∷ items) =
    let one = alias_extends table moment before item.alias item.value in
    let past = extended table moment (with_alias table moment before item.alias item.value) items in
    (one.0 ++ past.0, past.1 ∙ ap (λ l. l ++ past.0) one.1 ∙ append_assoc before one.0 past.0)

front_of : {A : Type 0} (xs ys : List A) → take (length xs) (xs ++ ys) ≡ xs
front_of {A} xs ys = let fits : length xs ≤ length xs = omega arith in take-append-le (length xs) xs ys fits ∙ take-length xs

-- the aliases that were there stand in front of all
pub kept_front : (table : TableColumns) (moment : Value) (using all : List Alias) (items : List Item) → all ≡ with_aliases table moment using items
    → (length using ≤ length all) × (take (length using) all ≡ using)
kept_front table moment using all items is =
    let past = extended table moment using items in
    let split : all ≡ using ++ past.0 = is ∙ past.1 in
    let sum : length all ≡ length using + length past.0 = ap length split ∙ length-append using past.0 in
    (omega arith, ap (take (length using)) split ∙ front_of using past.0)

-- what stands behind one item more
pub record Steps (table : TableColumns) (moment : Value) (all : List Alias) (front : List Term) (b : ℕ) (items : List Given) (i : ℕ) (item : Given) (m : Term) : Type 0 where
  pub fits : b + count_alias item.alias ≤ length all
  pub behind : all ≡ with_aliases table moment (take (b + count_alias item.alias) all) (map item_of (drop (i + 1) items))
  pub found : joined front (selected table moment (take b all) all (map item_of (drop i items)))
      ≡ joined (front ++ m ∷ []) (selected table moment (take (b + count_alias item.alias) all) all (map item_of (drop (i + 1) items)))

pub selected_step : (table : TableColumns) (moment : Value) (all : List Alias) (front : List Term) (b : ℕ) (items : List Given) (i : ℕ) (item : Given) (m : Term)
    → i < length items → item ≡ get_or items i item → b ≤ length all → all ≡ with_aliases table moment (take b all) (map item_of (drop i items))
    → meant table moment (in_force item.alias (take b all) all) (tree_of item.value) ≡ Ok m → Steps table moment all front b items i item m
selected_step table moment all front b items i item m here is fits all_is m_is =
    let count = count_alias item.alias in
    let old = take b all in
    let next = with_alias table moment old item.alias (tree_of item.value) in
    let rest = map item_of (drop (i + 1) items) in
    let d = dropped items i item here is in
    let behind = all_is ∙ ap (λ l. with_aliases table moment old (map item_of l)) d in
    let past = extended table moment next rest in
    let split : all ≡ next ++ past.0 = behind ∙ past.1 in
    let size : length next ≡ b + count = alias_length table moment old item.alias (tree_of item.value) ∙ ap (λ n. n + count) (length-take-le b all fits) in
    let sum : length all ≡ length next + length past.0 = ap length split ∙ length-append next past.0 in
    let front_is : take (b + count) all ≡ next = ap (λ n. take n all) (sym size) ∙ ap (take (length next)) split ∙ front_of next past.0 in
    record {
      fits = omega arith;
      behind = behind ∙ ap (λ l. with_aliases table moment l rest) (sym front_is);
      found = ap (λ l. joined front (selected table moment old all (map item_of l))) d
          ∙ ap (λ r. joined front (added r (selected table moment next all rest))) m_is
          ∙ joined_one front m (selected table moment next all rest)
          ∙ ap (λ l. joined (front ++ m ∷ []) (selected table moment l all rest)) (sym front_is);
    }
