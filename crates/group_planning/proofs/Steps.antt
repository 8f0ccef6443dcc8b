-- Steps along the items of a list.
use Rattle.std.proofs.Common.{◌≡◌, ℕ, ◌+◌, ◌<◌, ◌≤◌, Bool, true, false, List, [], ◌∷◌, ◌++◌, length, take, drop, get_or, map, Option, Some, None, Ok, Err, refl, sym, ◌∙◌, ap, arith, append_assoc, length-append}
use Rattle.std.proofs.Math.Seq.{take-length}
use Rattle.std.proofs.lemmas.List.{take-append-le, length-take-le, append-nil}
use Rattle.grammar.specs.Trees.{Tree, Item}
use Rattle.lp_values.specs.declared.value.Value.{Value}
use Rattle.query_tree.specs.Views.{tree_of, item_of}
use Rattle.query_tree.specs.declared.query.Item.{Item as Given}
use Rattle.query_types.specs.declared.fault.TypeFault.{TypeFault}
use Rattle.query_types.specs.declared.table.TableColumns.{TableColumns}
use Rattle.query_types.specs.Meanings.{added, joined}
use Rattle.query_types.specs.Planned.{columns_from, count_alias}
use Rattle.query_types.specs.Terms.{Term, column}
use Rattle.query_types.proofs.Answering.{joined_one}
use Rattle.query_types.proofs.Forms.{dropped}
use Rattle.query_types.proofs.Steps.{columns_step}
use Rattle.senses.specs.Senses.{Sense, field}
use Rattle.sensing.specs.Sensing.{Named, sensed}
use Rattle.group_planning.specs.Clauses.{items_sensed, names_in_force, with_all_named, with_named}

pub star_step : {A : Type 0} (star : ℕ) (columns : List A) (i : ℕ) (front : List Sense) → i < length columns
    → front ++ map (field star) (columns_from i (drop i columns)) ≡ (front ++ field star (column i) ∷ []) ++ map (field star) (columns_from (i + 1) (drop (i + 1) columns))
star_step star columns i front here =
    ap (λ (l : List Term). front ++ map (field star) l) (columns_step columns i [] here) ∙ sym (append_assoc front (field star (column i) ∷ []) (map (field star) (columns_from (i + 1) (drop (i + 1) columns))))

alias_length : (table : TableColumns) (moment : Value) (before : List Named) (alias : Option (List ℕ)) (value : Tree) → length (with_named table moment before alias value) ≡ length before + count_alias alias
alias_length table moment before None value = omega arith
alias_length table moment before (Some name) value = length-append before _

alias_extends : (table : TableColumns) (moment : Value) (before : List Named) (alias : Option (List ℕ)) (value : Tree) → (more : List Named) × (with_named table moment before alias value ≡ before ++ more)
alias_extends table moment before None value = ([], sym (append-nil before))
alias_extends table moment before (Some name) value = (record { name = name; wide = sensed true table moment before value; narrow = sensed false table moment before value } ∷ [], refl)

-- further aliases stand behind
extended : (table : TableColumns) (moment : Value) (before : List Named) (items : List Item) → (more : List Named) × (with_all_named table moment before items ≡ before ++ more)
extended table moment before [] = ([], sym (append-nil before))
extended table moment before (item ∷ items) =
    let one = alias_extends table moment before item.alias item.value in
    let past = extended table moment (with_named table moment before item.alias item.value) items in
    (one.0 ++ past.0, past.1 ∙ ap (λ l. l ++ past.0) one.1 ∙ append_assoc before one.0 past.0)

front_of : {A : Type 0} (xs ys : List A) → take (length xs) (xs ++ ys) ≡ xs
front_of {A} xs ys = let fits : length xs ≤ length xs = omega arith in take-append-le (length xs) xs ys fits ∙ take-length xs

-- the aliases that were there stand in front of all
pub kept_front : (table : TableColumns) (moment : Value) (using all : List Named) (items : List Item) → all ≡ with_all_named table moment using items
    → (length using ≤ length all) × (take (length using) all ≡ using)
kept_front table moment using all items is =
    let past = extended table moment using items in
    let split : all ≡ using ++ past.0 = is ∙ past.1 in
    let sum : length all ≡ length using + length past.0 = ap length split ∙ length-append using past.0 in
    (omega arith, ap (take (length using)) split ∙ front_of using past.0)

-- what stands behind one item more
pub record Steps (wide : Bool) (table : TableColumns) (moment : Value) (all : List Named) (front : List Sense) (b : ℕ) (items : List Given) (i : ℕ) (item : Given) (m : Sense) : Type 0 where
  pub fits : b + count_alias item.alias ≤ length all
  pub behind : all ≡ with_all_named table moment (take (b + count_alias item.alias) all) (map item_of (drop (i + 1) items))
  pub found : joined front (items_sensed wide table moment (take b all) all (map item_of (drop i items)))
      ≡ joined (front ++ m ∷ []) (items_sensed wide table moment (take (b + count_alias item.alias) all) all (map item_of (drop (i + 1) items)))

pub items_step : (wide : Bool) (table : TableColumns) (moment : Value) (all : List Named) (front : List Sense) (b : ℕ) (items : List Given) (i : ℕ) (item : Given) (m : Sense)
    → i < length items → item ≡ get_or items i item → b ≤ length all → all ≡ with_all_named table moment (take b all) (map item_of (drop i items))
    → sensed wide table moment (names_in_force item.alias (take b all) all) (tree_of item.value) ≡ Ok m → Steps wide table moment all front b items i item m
items_step wide table moment all front b items i item m here is fits all_is m_is =
    let count = count_alias item.alias in
    let old = take b all in
    let next = with_named table moment old item.alias (tree_of item.value) in
    let rest = map item_of (drop (i + 1) items) in
    let d = dropped items i item here is in
    let behind = all_is ∙ ap (λ l. with_all_named table moment old (map item_of l)) d in
    let past = extended table moment next rest in
    let split : all ≡ next ++ past.0 = behind ∙ past.1 in
    let size : length next ≡ b + count = alias_length table moment old item.alias (tree_of item.value) ∙ ap (λ n. n + count) (length-take-le b all fits) in
    let sum : length all ≡ length next + length past.0 = ap length split ∙ length-append next past.0 in
    let front_is : take (b + count) all ≡ next = ap (λ n. take n all) (sym size) ∙ ap (take (length next)) split ∙ front_of next past.0 in
    record {
      fits = omega arith;
      behind = behind ∙ ap (λ l. with_all_named table moment l rest) (sym front_is);
      found = ap (λ l. joined front (items_sensed wide table moment old all (map item_of l))) d
          ∙ ap (λ r. joined front (added r (items_sensed wide table moment next all rest))) m_is
          ∙ joined_one front m (items_sensed wide table moment next all rest)
          ∙ ap (λ l. joined (front ++ m ∷ []) (items_sensed wide table moment l all rest)) (sym front_is);
    }

-- the items stop at one that has a fault
pub items_stop : (wide : Bool) (table : TableColumns) (moment : Value) (all : List Named) (front : List Sense) (b : ℕ) (items : List Given) (i : ℕ) (item : Given) (fault : TypeFault)
    → i < length items → item ≡ get_or items i item → sensed wide table moment (names_in_force item.alias (take b all) all) (tree_of item.value) ≡ Err fault
    → joined front (items_sensed wide table moment (take b all) all (map item_of (drop i items))) ≡ Err fault
items_stop wide table moment all front b items i item fault here is found =
    ap (λ l. joined front (items_sensed wide table moment (take b all) all (map item_of l))) (dropped items i item here is)
    ∙ ap (λ r. joined front (added r (items_sensed wide table moment (with_named table moment (take b all) item.alias (tree_of item.value)) all (map item_of (drop (i + 1) items))))) found
