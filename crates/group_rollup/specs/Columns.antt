-- What a table of groups keeps: for each aggregate a column, with a place for each group.
use Rattle.std.specs.Int.{saturate_to_bits}
use Rattle.std.specs.Prelude.{◌+◌, ◌*◌, ◌-◌, ◌^◌, ℕ, min, Bool, not, ◌||◌, ◌&&◌, ◌≡◌, ◌+ℤ◌, if◌then◌else◌, List, [], ◌∷◌, ◌++◌, map, take, length, get_or, slice_set, pos, Option, Some, None}
use Rattle.std.specs.List.{AllByRecursion}
use Rattle.std.specs.Ordering.{is_lt, is_gt}
use Rattle.lp_values.specs.declared.value.Value.{Value}
use Rattle.lp_values.specs.declared.value.Value.TheVariants.{Null}
use Rattle.lp_values.specs.declared.kind.Kind.TheVariants as K
use Rattle.lp_values.specs.declared.group.AggKind.{AggKind}
use Rattle.lp_values.specs.declared.group.AggKind.TheVariants.{CountAll, Count, Sum, Avg, Min, Max, PropCount}
use Rattle.lp_values.specs.Order.{order_of}
use Rattle.group_rollup.specs.declared.column.AggregateColumn.{AggregateColumn}
use Rattle.group_rollup.specs.declared.column.AggregateColumn.TheVariants.{Records, Values, Totals, Least, Greatest}
use Rattle.group_rollup.specs.declared.column.Total.{Total}
use Rattle.group_rollup.specs.declared.changes.Change.{Change}
use Rattle.group_rollup.specs.declared.changes.Change.TheVariants as C
use Rattle.group_rollup.specs.Groups.{is_null, number_of, exact_sum, present, least, greatest, first_of, rest_of, sum_in, quotient_or_null, number_in}

-- all that an aggregate may ask of a group's arguments
pub record Tally : Type 0 where
  pub records : ℕ
  pub total : Total
  pub least : Value
  pub greatest : Value

abbrev pub total_of : List Value → Total
total_of values = record { sum = exact_sum values; values = length (present values) }

abbrev pub tally : List Value → Tally
tally values = record { records = length values; total = total_of values; least = least values; greatest = greatest values }

-- the column of an aggregate, over the arguments of each group
abbrev pub column_of : AggKind → List (List Value) → AggregateColumn
column_of CountAll groups = Records (map length groups)
column_of Count groups = Values (map (λ values. length (present values)) groups)
column_of (Sum kind) groups = Totals (map total_of groups)
column_of (Avg kind) groups = Totals (map total_of groups)
column_of Min groups = Least (map least groups)
column_of Max groups = Greatest (map greatest groups)
column_of PropCount groups = Records (map length groups)

-- each aggregate's column, over the rows of arguments of each group
abbrev pub columns_of : List AggKind → List (List (List Value)) → List AggregateColumn
columns_of [] groups = []
columns_of (kind ∷ kinds) groups = column_of kind (map (map first_of) groups) ∷ columns_of kinds (map (map rest_of) groups)

abbrev pub no_total : Total
no_total = record { sum = pos 0; values = 0 }

-- a column for no groups
abbrev pub no_column : AggKind → AggregateColumn
no_column CountAll = Records []
no_column Count = Values []
no_column (Sum kind) = Totals []
no_column (Avg kind) = Totals []
no_column Min = Least []
no_column Max = Greatest []
no_column PropCount = Records []

-- a column with a group more, of no records yet
abbrev pub begun : AggregateColumn → AggregateColumn
begun (Records counts) = Records (counts ++ 0 ∷ [])
begun (Values counts) = Values (counts ++ 0 ∷ [])
begun (Totals totals) = Totals (totals ++ no_total ∷ [])
begun (Least values) = Least (values ++ Null ∷ [])
begun (Greatest values) = Greatest (values ++ Null ∷ [])

-- the first groups of a column
abbrev pub cut : ℕ → AggregateColumn → AggregateColumn
cut n (Records counts) = Records (take n counts)
cut n (Values counts) = Values (take n counts)
cut n (Totals totals) = Totals (take n totals)
cut n (Least values) = Least (take n values)
cut n (Greatest values) = Greatest (take n values)

-- how many groups a column has
abbrev pub groups_in : AggregateColumn → ℕ
groups_in (Records counts) = length counts
groups_in (Values counts) = length counts
groups_in (Totals totals) = length totals
groups_in (Least values) = length values
groups_in (Greatest values) = length values

abbrev pub AllHave : ℕ → List AggregateColumn → Type 0
AllHave n columns = AllByRecursion (λ column. groups_in column ≡ n) columns

-- a value goes before the least so far, or behind the greatest
abbrev pub is_lesser : Value → Value → Bool
is_lesser so_far value = not (is_null value) && (is_null so_far || is_lt (order_of value so_far))

abbrev pub is_greater : Value → Value → Bool
is_greater so_far value = not (is_null value) && (is_null so_far || is_gt (order_of value so_far))

abbrev pub count_one : Value → ℕ
count_one value = if is_null value then 0 else 1

abbrev pub total_one : Value → Total
total_one value = record { sum = number_of value; values = count_one value }

-- what one value tells
abbrev pub tally_one : Value → Tally
tally_one value = record { records = 1; total = total_one value; least = value; greatest = value }

-- counts end at 2^64 - 1, sums at the ends of 128 bits
abbrev pub count_sum : ℕ → ℕ → ℕ
count_sum a b = min (a + b) (2 ^ 64 - 1)

abbrev pub total_sum : Total → Total → Total
total_sum a b = record { sum = saturate_to_bits 127 (a.sum +ℤ b.sum); values = count_sum a.values b.values }

abbrev pub if_better : Bool → Value → Option Value
if_better better value = if better then Some value else None

-- what values bring to a group of a column
abbrev pub change_by : AggregateColumn → ℕ → Tally → Change
change_by (Records counts) index t = C.Count t.records
change_by (Values counts) index t = C.Count t.total.values
change_by (Totals totals) index t = C.Sum t.total
change_by (Least values) index t = C.Best (if_better (is_lesser (get_or values index Null) t.least) t.least)
change_by (Greatest values) index t = C.Best (if_better (is_greater (get_or values index Null) t.greatest) t.greatest)

-- what a column keeps of a group
abbrev pub count_at : AggregateColumn → ℕ → ℕ
count_at (Records counts) index = get_or counts index 0
count_at (Values counts) index = get_or counts index 0
count_at (Totals totals) index = 0
count_at (Least values) index = 0
count_at (Greatest values) index = 0

abbrev pub total_at : AggregateColumn → ℕ → Total
total_at (Records counts) index = no_total
total_at (Values counts) index = no_total
total_at (Totals totals) index = get_or totals index no_total
total_at (Least values) index = no_total
total_at (Greatest values) index = no_total

abbrev pub value_at : AggregateColumn → ℕ → Value
value_at (Records counts) index = Null
value_at (Values counts) index = Null
value_at (Totals totals) index = Null
value_at (Least values) index = get_or values index Null
value_at (Greatest values) index = get_or values index Null

-- what a group of another column brings to a group of a column
abbrev pub change_from : AggregateColumn → ℕ → AggregateColumn → ℕ → Change
change_from (Records counts) index other at = C.Count (count_at other at)
change_from (Values counts) index other at = C.Count (count_at other at)
change_from (Totals totals) index other at = C.Sum (total_at other at)
change_from (Least values) index other at = C.Best (if_better (is_lesser (get_or values index Null) (value_at other at)) (value_at other at))
change_from (Greatest values) index other at = C.Best (if_better (is_greater (get_or values index Null) (value_at other at)) (value_at other at))

-- a value in its place, or none
abbrev pub put_best : List Value → ℕ → Option Value → List Value
put_best values index None = values
put_best values index (Some value) = slice_set values index value

-- a column after a change
abbrev pub applied : AggregateColumn → ℕ → Change → AggregateColumn
applied (Records counts) index (C.Count by) = Records (slice_set counts index (count_sum (get_or counts index 0) by))
applied (Records counts) index (C.Sum by) = Records counts
applied (Records counts) index (C.Best by) = Records counts
applied (Values counts) index (C.Count by) = Values (slice_set counts index (count_sum (get_or counts index 0) by))
applied (Values counts) index (C.Sum by) = Values counts
applied (Values counts) index (C.Best by) = Values counts
applied (Totals totals) index (C.Count by) = Totals totals
applied (Totals totals) index (C.Sum by) = Totals (slice_set totals index (total_sum (get_or totals index no_total) by))
applied (Totals totals) index (C.Best by) = Totals totals
applied (Least values) index (C.Count by) = Least values
applied (Least values) index (C.Sum by) = Least values
applied (Least values) index (C.Best by) = Least (put_best values index by)
applied (Greatest values) index (C.Count by) = Greatest values
applied (Greatest values) index (C.Sum by) = Greatest values
applied (Greatest values) index (C.Best by) = Greatest (put_best values index by)

-- what a record's arguments bring to a group, column by column
abbrev pub changes_by : List AggregateColumn → ℕ → List Value → List Change
changes_by [] index values = []
changes_by (column ∷ columns) index values = change_by column index (tally_one (first_of values)) ∷ changes_by columns index (rest_of values)

-- what a group of another table brings
abbrev pub changes_from : List AggregateColumn → ℕ → List AggregateColumn → ℕ → List Change
changes_from (column ∷ columns) index (other ∷ others) at = change_from column index other at ∷ changes_from columns index others at
changes_from columns index others at = []

abbrev pub all_applied : List AggregateColumn → ℕ → List Change → List AggregateColumn
all_applied (column ∷ columns) index (change ∷ changes) = applied column index change ∷ all_applied columns index changes
all_applied columns index changes = columns

-- the value of an aggregate from its column, among so many records in all
abbrev pub finished : AggKind → ℕ → AggregateColumn → ℕ → Value
finished CountAll all column index = number_in K.Integer (pos (count_at column index))
finished Count all column index = number_in K.Integer (pos (count_at column index))
finished (Sum kind) all column index = sum_in kind (total_at column index).sum (total_at column index).values
finished (Avg kind) all column index = quotient_or_null kind (total_at column index).sum (total_at column index).values
finished Min all column index = value_at column index
finished Max all column index = value_at column index
finished PropCount all column index = quotient_or_null K.Real (pos (count_at column index * 1_000_000)) all

abbrev pub all_finished : List AggKind → ℕ → List AggregateColumn → ℕ → List Value
all_finished (kind ∷ kinds) all (column ∷ columns) index = finished kind all column index ∷ all_finished kinds all columns index
all_finished kinds all columns index = []
