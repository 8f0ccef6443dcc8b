-- What stands before parentheses, and how many arguments it takes.
use Rattle.std.specs.Prelude.{ℕ, ◌==◌, Bool, false, not, ◌&&◌, List, [], ◌∷◌, codes, if◌then◌else◌, Option, Some, None}
use Rattle.std.specs.List.{list_any}
use Rattle.std.specs.Str.{str_eq_ignore_ascii_case}
use Rattle.lp_values.specs.declared.part.Part.TheVariants.{Date, Time, Both}
use Rattle.lp_functions.specs.declared.function.Function.{Function}
use Rattle.lp_functions.specs.Names.{named}
use Rattle.lp_functions.specs.Table.{takes_many}
use Rattle.query_types.specs.declared.callee.Callee.{Callee}
use Rattle.query_types.specs.declared.callee.Callee.TheVariants as C

-- the names of aggregates, and GROUPING
abbrev pub aggregates : List (List ℕ)
aggregates = codes "COUNT" ∷ codes "SUM" ∷ codes "AVG" ∷ codes "MIN" ∷ codes "MAX" ∷ codes "GROUPING" ∷ []

abbrev pub is_aggregate : List ℕ → Bool
is_aggregate name = list_any (str_eq_ignore_ascii_case name) aggregates

-- an aggregate, not GROUPING
abbrev pub is_counting : List ℕ → Bool
is_counting name = is_aggregate name && not (str_eq_ignore_ascii_case name (codes "GROUPING"))

abbrev pub function_or_unknown : Option Function → Callee
function_or_unknown (Some function) = C.Function function
function_or_unknown None = C.Unknown

-- what a name stands for, whatever its case
abbrev pub callee : List ℕ → Callee
callee name =
    if str_eq_ignore_ascii_case name (codes "SYSTEM_TIMESTAMP") then C.Now Both
    else if str_eq_ignore_ascii_case name (codes "SYSTEM_DATE") then C.Now Date
    else if str_eq_ignore_ascii_case name (codes "SYSTEM_TIME") then C.Now Time
    else if is_aggregate name then C.Aggregate
    else function_or_unknown (named name)

-- whether it takes so many arguments
abbrev pub has_arity : Callee → ℕ → Bool
has_arity (C.Function function) many = takes_many function many
has_arity (C.Now part) many = many == 0
has_arity C.Aggregate many = many == 1
has_arity C.Unknown many = false
