-- The plan of a query over a table, or the first fault of its clauses.
use Rattle.std.specs.Prelude.{◌≡◌, ℕ, ℤ, ◌+◌, ◌<◌, Bool, true, false, ◌||◌, ◌==◌, List, [], ◌∷◌, ◌++◌, length, get_or, map, count_by, nat_le, Option, Some, None, option_map, Result, Ok, Err, if◌then◌else◌}
use Rattle.grammar.specs.Trees.{Tree, Test, Item, Parts, Placed, Query}
use Rattle.grammar.specs.Trees.{Query as query}
use Rattle.lp_values.specs.declared.kind.Kind.{Kind}
use Rattle.lp_values.specs.declared.part.Part.TheVariants.{Both}
use Rattle.lp_values.specs.declared.value.Value.{Value}
use Rattle.slot_reading.specs.Stamps.{stamp_value}
use Rattle.query_types.specs.declared.table.TableColumns.{TableColumns}
use Rattle.query_types.specs.Terms.{Term, column, any_has_column}
use Rattle.query_types.specs.declared.fault.TypeFault.{TypeFault}
use Rattle.query_types.specs.declared.fault.TypeFault.TheVariants as F
use Rattle.query_types.specs.declared.alias.Alias.{Alias}
use Rattle.query_types.specs.declared.plans.Plan.{Plan}
use Rattle.query_types.specs.Meanings.{followed, added, meant, kind_meant}
use Rattle.query_types.specs.Conditions.{Filter, filter_of, filtered, mentions}
use Rattle.query_types.specs.Names.{item_name}
use Rattle.query_types.specs.Orders.{places_asked}

-- these aliases, and behind them that of an item, which may use those before it
abbrev pub with_alias : TableColumns → Value → List Alias → Option (List ℕ) → Tree → List Alias
with_alias table moment aliases None value = aliases
with_alias table moment aliases (Some name) value = aliases ++ record { name = name; meaning = meant table moment aliases value } ∷ []

-- these aliases, and behind them those of items, each of which may use those before it
abbrev pub with_aliases : TableColumns → Value → List Alias → List Item → List Alias
with_aliases table moment aliases [] = aliases
with_aliases table moment aliases (item ∷ items) = with_aliases table moment (with_alias table moment aliases item.alias item.value) items

-- how many aliases an item makes
abbrev pub count_alias : Option (List ℕ) → ℕ
count_alias None = 0
count_alias (Some name) = 1

-- the aliases in force in an item: those before it where it has an alias itself, as each of USING has, else all
abbrev pub in_force : Option (List ℕ) → List Alias → List Alias → List Alias
in_force None before all = all
in_force (Some name) before all = before

-- what the items mean, behind these aliases, of all those; or the first fault
abbrev pub selected : TableColumns → Value → List Alias → List Alias → List Item → Result (List Term) TypeFault
selected table moment before all [] = Ok []
selected table moment before all (item ∷ items) = added (meant table moment (in_force item.alias before all) item.value)
    (selected table moment (with_alias table moment before item.alias item.value) all items)

-- the names of the items, behind these aliases, of all those
abbrev pub names_of : TableColumns → List Alias → List Item → List (List ℕ)
names_of table all items = map (λ item. item_name table all item.alias item.value) items

-- each column of the table from a place on
abbrev pub columns_from : {A : Type 0} → ℕ → List A → List Term
columns_from at [] = []
columns_from at (c ∷ cs) = column at ∷ columns_from (at + 1) cs

-- what is selected: the items, or under `*` each column
abbrev pub list_meant : TableColumns → Value → List Alias → List Alias → Option ℕ → List Item → Result (List Term) TypeFault
list_meant table moment before all (Some star) items = Ok (columns_from 0 table.columns)
list_meant table moment before all None items = selected table moment before all items

abbrev pub list_names : TableColumns → List Alias → Option ℕ → List Item → List (List ℕ)
list_names table all (Some star) items = map (λ c. c.name) table.columns
list_names table all None items = names_of table all items

-- WHERE, where it stands
abbrev pub where_meant : TableColumns → Value → List Alias → Option Test → Result (Option Filter) TypeFault
where_meant table moment aliases None = Ok None
where_meant table moment aliases (Some condition) = followed (filtered table moment aliases condition) (λ filter. Ok (Some filter))

-- an INTO name has a star for each column or more
abbrev pub has_too_few : ℕ → Option Placed → Bool
has_too_few columns None = false
has_too_few columns (Some name) = nat_le columns (count_by (λ byte. byte == 42) name.text)

abbrev pub place_in : Option Placed → ℕ
place_in None = 0
place_in (Some name) = name.at

-- whether WHERE has the column at a place
abbrev pub is_mentioned : ℕ → Option Filter → Bool
is_mentioned k None = false
is_mentioned k (Some filter) = mentions k filter

-- for each column of the table from a place on, whether an alias of USING, an item or WHERE means it
abbrev pub used_from : {A : Type 0} → ℕ → List A → List Term → List Term → Option Filter → List Bool
used_from at [] aliased items filter = []
used_from at (c ∷ cs) aliased items filter = (any_has_column at aliased || any_has_column at items || is_mentioned at filter) ∷ used_from (at + 1) cs aliased items filter

-- a plan: what each output column means, its name and its kind; the condition; which columns of the table words of the query mean; the
-- places of the output columns that rows are ordered by
pub record Planned : Type 0 where
  pub items : List Term
  pub names : List (List ℕ)
  pub kinds : List Kind
  pub condition : Option Filter
  pub used : List Bool
  pub order : List ℕ

-- each column of the table that the items or the condition have is told as used
pub record Covers (used : List Bool) (items : List Term) (condition : Option Filter) : Type 0 where
  pub item : (k : ℕ) → k < length used → any_has_column k items ≡ true → get_or used k false ≡ true
  pub mentioned : (k : ℕ) → k < length used → is_mentioned k condition ≡ true → get_or used k false ≡ true

-- what a plan holds
abbrev pub planned_in : Plan → Planned
planned_in plan = record { items = plan.items; names = plan.names; kinds = plan.kinds; condition = option_map filter_of plan.condition; used = plan.used; order = plan.order }

abbrev pub plan_with : TableColumns → List Alias → Parts → List Term → List Term → Option Filter → List ℕ → Planned
plan_with table all parts aliased items filter order = record {
  items = items;
  names = list_names table all parts.star parts.items;
  kinds = map (kind_meant table.columns) items;
  condition = filter;
  used = used_from 0 table.columns aliased items filter;
  order = order;
}

-- what WHERE means, and where the expressions of ORDER BY stand among the items
abbrev pub filter_and_order : TableColumns → Value → List Alias → Parts → List Term → Result (Option Filter × List ℕ) TypeFault
filter_and_order table moment all parts items = followed (where_meant table moment all parts.condition) (λ filter. followed (places_asked table moment all items parts.order) (λ order. Ok (filter, order)))

-- what SELECT, WHERE and ORDER BY mean, then where ORDER BY's expressions stand in SELECT, then INTO: the first fault, or the plan
abbrev pub plan_behind : TableColumns → Value → List Alias → List Alias → Parts → List Term → Result Planned TypeFault
plan_behind table moment using all parts aliased =
    followed (list_meant table moment using all parts.star parts.items) (λ items.
    followed (filter_and_order table moment all parts items) (λ asked.
    if has_too_few (length items) parts.into then Err (F.TooFewColumns (place_in parts.into)) else Ok (plan_with table all parts aliased items asked.0 asked.1)))

-- the same behind USING, with the aliases of USING and of SELECT
abbrev pub plan_of_parts : TableColumns → Value → Parts → Result Planned TypeFault
plan_of_parts table moment parts =
    let using = with_aliases table moment [] parts.aliases in
    followed (selected table moment [] using parts.aliases) (plan_behind table moment using (with_aliases table moment using parts.items) parts)

-- the plan of a query in a run of this moment, or its first fault
abbrev pub plan_of : TableColumns → ℤ → Query → Result Planned TypeFault
plan_of table moment (query.query parts subqueries) = plan_of_parts table (stamp_value Both moment) parts
