-- The values of rows, joined.
use Rattle.std.specs.Prelude.{List, flat_map}
use Rattle.lp_values.specs.declared.value.Value.{Value}

-- a row of a subquery has one value
abbrev pub values_of : List (List Value) → List Value
values_of rows = flat_map (λ row. row) rows
