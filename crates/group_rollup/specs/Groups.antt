-- Groups: the sublists of the added records by their keys, and the aggregates over them.
use Rattle.std.specs.Prelude.{ℕ, ◌*◌, ◌-◌, zero, suc, Bool, true, false, not, if◌then◌else◌, List, [], ◌∷◌, ◌++◌, map, take, length, replicate, filter, ℤ, pos, ◌+ℤ◌, int_div}
use Rattle.std.specs.Ordering.{is_eq, is_lt, is_gt}
use Rattle.std.specs.Cmp.Lexicographic.{pointwise}
use Rattle.lp_values.specs.declared.value.Value.{Value}
use Rattle.lp_values.specs.declared.value.Value.TheVariants.{Null, Int, Real}
use Rattle.lp_values.specs.declared.group.GroupRow.{GroupRow}
use Rattle.lp_values.specs.declared.kind.Kind.{Kind}
use Rattle.lp_values.specs.declared.kind.Kind.TheVariants as K
use Rattle.lp_values.specs.Arithmetic.{is_in_64_bits, real_of}
use Rattle.lp_values.specs.Order.{order_of}
use Rattle.lp_values.specs.declared.group.AggKind.{AggKind}
use Rattle.lp_values.specs.declared.group.AggKind.TheVariants.{CountAll, Count, Sum, Avg, Min, Max, PropCount}

-- a record: the values of its keys, and then those of its arguments
abbrev pub Record : Type 0
Record = List Value × List Value

-- whether two lists of values are one and the same by the order of values
abbrev pub is_same : List Value → List Value → Bool
is_same = pointwise (λ a b. is_eq (order_of a b))

-- each list once, in the order in which they first stand
unfoldable pub firsts : List (List Value) → List (List Value)
firsts [] = []
firsts (key ∷ keys) = key ∷ filter (λ other. not (is_same key other)) (firsts keys)

-- the records whose first n keys are these
abbrev pub members : ℕ → List Value → List Record → List Record
members n key records = filter (λ r. is_same key (take n r.0)) records

-- the lists of the first n keys
abbrev pub keys_of : ℕ → List Record → List (List Value)
keys_of n records = firsts (map (λ r. take n r.0) records)

-- the arguments of records
abbrev pub arguments : List Record → List (List Value)
arguments records = map (λ r. r.1) records

abbrev pub is_null : Value → Bool
is_null Null = true
is_null value = false

-- those that aren't NULL
abbrev pub present : List Value → List Value
present values = filter (λ v. not (is_null v)) values

-- a whole number, or millionths
abbrev pub number_of : Value → ℤ
number_of (Int number) = number
number_of (Real number) = number.millionths
number_of value = pos 0

abbrev pub exact_sum : List Value → ℤ
exact_sum [] = pos 0
exact_sum (value ∷ values) = number_of value +ℤ exact_sum values

-- the lesser and the greater of two by the order of values, where NULL is none
abbrev pub lesser : Value → Value → Value
lesser a b = if is_null a then b else (if is_null b then a else (if is_lt (order_of b a) then b else a))

abbrev pub greater : Value → Value → Value
greater a b = if is_null a then b else (if is_null b then a else (if is_gt (order_of b a) then b else a))

abbrev pub least : List Value → Value
least [] = Null
least (value ∷ values) = lesser value (least values)

abbrev pub greatest : List Value → Value
greatest [] = Null
greatest (value ∷ values) = greater value (greatest values)

-- a number of a kind, or NULL where the kind has no such number
abbrev pub number_in : Kind → ℤ → Value
number_in K.Integer n = if is_in_64_bits n then Int n else Null
number_in K.Real n = if is_in_64_bits n then real_of n else Null
number_in kind n = Null

-- a quotient of counts or sums; of nothing NULL
abbrev pub quotient_or_null : Kind → ℤ → ℕ → Value
quotient_or_null kind a zero = Null
quotient_or_null kind a (suc b) = number_in kind (int_div a (pos (suc b)))

-- the sum of what is there, of nothing NULL
abbrev pub sum_in : Kind → ℤ → ℕ → Value
sum_in kind a zero = Null
sum_in kind a (suc b) = number_in kind a

-- an aggregate over the arguments of a group's records, among so many records in all
abbrev pub aggregate : AggKind → ℕ → List Value → Value
aggregate CountAll all values = Int (pos (length values))
aggregate Count all values = Int (pos (length (present values)))
aggregate (Sum kind) all values = sum_in kind (exact_sum values) (length (present values))
aggregate (Avg kind) all values = quotient_or_null kind (exact_sum values) (length (present values))
aggregate Min all values = least values
aggregate Max all values = greatest values
aggregate PropCount all values = quotient_or_null K.Real (pos (length values * 1_000_000)) all

abbrev pub first_of : List Value → Value
first_of [] = Null
first_of (value ∷ values) = value

abbrev pub rest_of : List Value → List Value
rest_of [] = []
rest_of (value ∷ values) = values

-- each aggregate over its own column of arguments
abbrev pub aggregates : List AggKind → ℕ → List (List Value) → List Value
aggregates [] all rows = []
aggregates (kind ∷ kinds) all rows = aggregate kind all (map first_of rows) ∷ aggregates kinds all (map rest_of rows)

-- the group of the first n keys: what is dropped of the keys is NULL
abbrev pub group_of : ℕ → List AggKind → List Record → ℕ → List Value → GroupRow
group_of width kinds records n key = record {
  keys = key ++ replicate (width - n) Null;
  dropped = width - n;
  aggregates = aggregates kinds (length records) (arguments (members n key records));
}

-- the groups of the first n keys; that of no keys is there even without records
abbrev pub groups_at : ℕ → List AggKind → List Record → ℕ → List GroupRow
groups_at width kinds records zero = group_of width kinds records 0 [] ∷ []
groups_at width kinds records (suc n) = map (group_of width kinds records (suc n)) (keys_of (suc n) records)

-- the groups of each list of fewer than n keys, the longer lists first
unfoldable pub shorter : ℕ → List AggKind → List Record → ℕ → List GroupRow
shorter width kinds records zero = []
shorter width kinds records (suc n) = groups_at width kinds records n ++ shorter width kinds records n

-- the groups of the full lists of keys, and under rollup those of each shorter list
abbrev pub grouped : ℕ → List AggKind → Bool → List Record → List GroupRow
grouped width kinds rollup records = groups_at width kinds records width ++ (if rollup then shorter width kinds records width else [])
