-- The table of groups, and which records it stands for.
use Rattle.std.specs.Prelude.{◌≡◌, ◌≤◌, ◌<◌, ◌^◌, unsigned_abs, ℕ, Bool, false, Some, List, [], ◌∷◌, ◌++◌, map, length, slice_get}
use Rattle.std.specs.List.{list_any, AllByRecursion, IsDistinct}
use Rattle.lp_values.specs.declared.value.Value.{Value}
use Rattle.lp_values.specs.declared.group.AggKind.{AggKind}
use Rattle.group_rollup.specs.declared.changes.Change.{Change}
use Rattle.group_rollup.specs.declared.column.AggregateColumn.{AggregateColumn}
use Rattle.group_rollup.specs.Groups.{Record, is_same, number_of, keys_of, members, arguments}
use Rattle.group_rollup.specs.Columns.{columns_of, begun, all_applied}

-- what is known of groups: each list of keys, with its place in the column of each aggregate
pub record Table : Type 0 where
  pub width : ℕ
  pub kinds : List AggKind
  pub rollup : Bool
  pub keys : List (List Value)
  pub columns : List AggregateColumn
  pub records : ℕ

-- a number lies within 64 bits
abbrev pub IsSmall : Value → Type 0
IsSmall value = unsigned_abs (number_of value) ≤ 2 ^ 63

abbrev pub AreSmall : List Value → Type 0
AreSmall values = AllByRecursion IsSmall values

abbrev pub AllSmall : List Record → Type 0
AllSmall records = AllByRecursion AreSmall (arguments records)

-- the arguments of each group of the first n keys
abbrev pub groups_of : ℕ → List Record → List (List (List Value))
groups_of n records = map (λ key. arguments (members n key records)) (keys_of n records)

-- keys and columns are those of the groups of the first n keys
pub record Keeps (n : ℕ) (kinds : List AggKind) (keys : List (List Value)) (columns : List AggregateColumn) (records : List Record) : Type 0 where
  pub same_keys : keys ≡ keys_of n records
  pub same_columns : columns ≡ columns_of kinds (groups_of n records)

-- the table holds exactly these records
pub record Holds (width : ℕ) (kinds : List AggKind) (rollup : Bool) (table : Table) (records : List Record) : Type 0 where
  pub wide : table.width ≡ width
  pub asked : table.kinds ≡ kinds
  pub rolls : table.rollup ≡ rollup
  pub count : table.records ≡ length records
  pub small : AllSmall records
  pub keeps : Keeps width kinds table.keys table.columns records

-- where a list of keys stands, or is to stand
pub record IsPlace (keys : List (List Value)) (key : List Value) (index : ℕ) : Type 0 where
  pub known : index < length keys → slice_get keys index ≡ Some key
  pub absent : index ≡ length keys → list_any (is_same key) keys ≡ false
  pub within : index ≤ length keys
  pub distinct : IsDistinct is_same keys

-- keys and columns after changes at a place
pub record IsPut (keys : List (List Value)) (columns : List AggregateColumn) (key : List Value) (index : ℕ) (changes : List Change) (more_keys : List (List Value)) (more_columns : List AggregateColumn) : Type 0 where
  pub known : index < length keys → (more_keys ≡ keys) × (more_columns ≡ all_applied columns index changes)
  pub absent : index ≡ length keys → (more_keys ≡ keys ++ key ∷ []) × (more_columns ≡ all_applied (map begun columns) index changes)

-- keys and columns after a list of keys brought changes, which are known for each place
pub record IsAdded (keys : List (List Value)) (columns : List AggregateColumn) (key : List Value) (changes : ℕ → List Change) (more_keys : List (List Value)) (more_columns : List AggregateColumn) : Type 0 where
  pub index : ℕ
  pub place : IsPlace keys key index
  pub put : IsPut keys columns key index (changes index) more_keys more_columns

-- the records, group by group
abbrev pub regrouped : ℕ → List (List Value) → List Record → List Record
regrouped width [] records = []
regrouped width (key ∷ keys) records = members width key records ++ regrouped width keys records

-- keys and columns are those of the groups of so many records, each number of which lies within 64 bits
pub record Stands (width : ℕ) (kinds : List AggKind) (keys : List (List Value)) (columns : List AggregateColumn) (all : ℕ) (records : List Record) : Type 0 where
  pub keeps : Keeps width kinds keys columns records
  pub small : AllSmall records
  pub count : all ≡ length records
  pub few : length records < 2 ^ 63
