-- The plan of a subquery, which has one item without an alias and maybe WHERE: in it stand no groups, no aggregate and no GROUPING.
use Rattle.std.specs.Prelude.{ℕ, ℤ, Bool, true, false, List, [], if◌then◌else◌, Option, Some, None, Result, Ok, Err}
use Rattle.std.specs.Option.{option_or}
use Rattle.grammar.specs.Trees.{Parts, Query}
use Rattle.grammar.specs.Trees.{Query as query}
use Rattle.lp_values.specs.declared.part.Part.TheVariants.{Both}
use Rattle.lp_values.specs.declared.value.Value.{Value}
use Rattle.slot_reading.specs.Stamps.{stamp_value}
use Rattle.query_types.specs.declared.fault.TypeFault.{TypeFault}
use Rattle.query_types.specs.declared.fault.TypeFault.TheVariants as F
use Rattle.query_types.specs.declared.table.TableColumns.{TableColumns}
use Rattle.query_types.specs.Built.{is_built}
use Rattle.query_types.specs.Meanings.{followed}
use Rattle.query_types.specs.Planned.{Planned, plan_of}
use Rattle.senses.specs.Senses.{Sense}
use Rattle.sensing.specs.Sensing.{Named}
use Rattle.senses.specs.Checks.{Check}
use Rattle.sensing.specs.Checked.{maybe_checked}
use Rattle.group_planning.specs.Clauses.{all_named, items_sensed, using_named}
use Rattle.judging.specs.Judged.{list_misplaced, maybe_misplaced}

-- the place of the first GROUPING, of the items first. Where there is none it is 0, but a subquery comes here only with one in it
abbrev pub place_or_start : Option ℕ → ℕ
place_or_start None = 0
place_or_start (Some at) = at

abbrev pub grouping_place : List Sense → Option Check → ℕ
grouping_place items condition = place_or_start (option_or (list_misplaced [] true items) (maybe_misplaced [] true condition))

-- the same in a query where aggregates may not stand: they and its other faults come before, those of the items and then of WHERE
abbrev pub grouping_among : TableColumns → Value → Parts → List Named → List Named → Result ℕ TypeFault
grouping_among table moment parts using all = followed (items_sensed false table moment using all parts.items) (λ items.
    followed (maybe_checked false table moment all parts.condition) (λ condition. Ok (grouping_place items condition)))

abbrev pub grouping_in : TableColumns → ℤ → Query → Result ℕ TypeFault
grouping_in table moment (query.query parts subqueries) =
    let now = stamp_value Both moment in grouping_among table now parts (using_named table now parts) (all_named table now parts)

-- The plan of a subquery in a run of this moment, or its first fault. One with an aggregate or GROUPING has always a fault: GROUPING is
-- of no key, since there are no groups
abbrev pub subquery_plan_of : TableColumns → ℤ → Query → Result Planned TypeFault
subquery_plan_of table moment q =
    if is_built q then plan_of table moment q else followed (grouping_in table moment q) (λ at. Err (F.NotGrouped at))
