-- A value where it stands, or as it was made.
use Rattle.std.specs.Prelude.{Bool, true, false, List, length, nat_lt}
use Rattle.lp_values.specs.declared.value.Value.{Value}
use Rattle.query_types.specs.Terms.{Term, column, constant, made}
use Rattle.row_engine.specs.declared.seen.Seen.{Seen}
use Rattle.row_engine.specs.declared.seen.Seen.TheVariants.{There, Made}

abbrev pub seen_value : Seen → Value
seen_value (There value) = value.now
seen_value (Made value) = value

-- whether a value stands anywhere: a constant in the plan, a column in the row
abbrev pub stands : List Value → Term → Bool
stands row (column k) = nat_lt k (length row)
stands row (constant value) = true
stands row (made kind by of) = false
