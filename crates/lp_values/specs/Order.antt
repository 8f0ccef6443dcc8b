-- The total order of values.
use Rattle.std.specs.Prelude.{ℕ}
use Rattle.std.specs.declared.cmp.Ordering.{Ordering}
use Rattle.std.specs.Ordering.{nat_cmp, int_cmp, ordering_then}
use Rattle.std.specs.Cmp.Lexicographic.{slice_cmp}
use Rattle.lp_values.specs.declared.part.Part.{Part}
use Rattle.lp_values.specs.declared.part.Part.TheVariants as P
use Rattle.lp_values.specs.declared.value.Value.{Value}
use Rattle.lp_values.specs.declared.value.Value.TheVariants.{Null, Int, Real, Text, Stamp}

-- the place of a value's kind
abbrev pub kind_place : Value → ℕ
kind_place Null = 0
kind_place (Int number) = 1
kind_place (Real number) = 2
kind_place (Text text) = 3
kind_place (Stamp stamp) = 4

-- the place of a part as listed
abbrev pub part_place : Part → ℕ
part_place P.Date = 0
part_place P.Time = 1
part_place P.Both = 2

-- kinds first; within a kind numbers by value, texts by bytes, stamps by seconds and then by part
abbrev pub order_of : Value → Value → Ordering
order_of (Int a) (Int b) = int_cmp a b
order_of (Real a) (Real b) = int_cmp a.millionths b.millionths
order_of (Text a) (Text b) = slice_cmp nat_cmp a b
order_of (Stamp a) (Stamp b) = ordering_then (int_cmp a.seconds b.seconds) (nat_cmp (part_place a.part) (part_place b.part))
order_of a b = nat_cmp (kind_place a) (kind_place b)
