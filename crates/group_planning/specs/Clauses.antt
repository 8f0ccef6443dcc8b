-- What the clauses of a query mean, in their order, or the first fault in them.
use Rattle.std.specs.Prelude.{ℕ, Bool, true, false, not, List, [], ◌∷◌, ◌++◌, map, Option, Some, None, Result, Ok}
use Rattle.grammar.specs.Trees.{Tree, Trees, Test, Item, Parts}
use Rattle.grammar.specs.Trees.{trees_of as listed}
use Rattle.lp_values.specs.declared.value.Value.{Value}
use Rattle.query_types.specs.declared.fault.TypeFault.{TypeFault}
use Rattle.query_types.specs.declared.fault.TypeFault.TheVariants as F
use Rattle.query_types.specs.declared.table.TableColumns.{TableColumns}
use Rattle.query_types.specs.Meanings.{added, followed, where_it_is}
use Rattle.query_types.specs.Planned.{columns_from}
use Rattle.senses.specs.Senses.{Sense, field}
use Rattle.senses.specs.Checks.{Check}
pub use Rattle.senses.specs.Clauses.{Clauses}
use Rattle.sensing.specs.Sensing.{Named, sensed, all_sensed}
use Rattle.sensing.specs.Checked.{maybe_checked}

-- these aliases, and behind them that of an item, which may use those before it
abbrev pub with_named : TableColumns → Value → List Named → Option (List ℕ) → Tree → List Named
with_named table moment aliases None value = aliases
with_named table moment aliases (Some name) value =
    aliases ++ record { name = name; wide = sensed true table moment aliases value; narrow = sensed false table moment aliases value } ∷ []

abbrev pub with_all_named : TableColumns → Value → List Named → List Item → List Named
with_all_named table moment aliases [] = aliases
with_all_named table moment aliases (item ∷ items) = with_all_named table moment (with_named table moment aliases item.alias item.value) items

-- the aliases in force in an item: those before it where it has an alias itself, else all
abbrev pub names_in_force : Option (List ℕ) → List Named → List Named → List Named
names_in_force None before all = all
names_in_force (Some name) before all = before

-- what the items mean, behind these aliases, of all those; or the first fault
abbrev pub items_sensed : Bool → TableColumns → Value → List Named → List Named → List Item → Result (List Sense) TypeFault
items_sensed wide table moment before all [] = Ok []
items_sensed wide table moment before all (item ∷ items) = added (sensed wide table moment (names_in_force item.alias before all) item.value)
    (items_sensed wide table moment (with_named table moment before item.alias item.value) all items)

-- what is selected: the items, or under `*`, which no grouped query has, each column
abbrev pub list_sensed : Bool → TableColumns → Value → List Named → List Named → Option ℕ → List Item → Result (List Sense) TypeFault
list_sensed grouped table moment before all (Some star) items = where_it_is (not grouped) (F.StarWithGroups star) (map (field star) (columns_from 0 table.columns))
list_sensed grouped table moment before all None items = items_sensed true table moment before all items

-- the aliases of USING, and those with the ones of SELECT behind them
abbrev pub using_named : TableColumns → Value → Parts → List Named
using_named table moment parts = with_all_named table moment [] parts.aliases

abbrev pub all_named : TableColumns → Value → Parts → List Named
all_named table moment parts = with_all_named table moment (using_named table moment parts) parts.items

-- a condition, and the values behind it: WHERE and GROUP BY, or HAVING and ORDER BY
abbrev pub checked_list : Bool → TableColumns → Value → List Named → Option Test → Trees → Result (Option Check × List Sense) TypeFault
checked_list wide table moment all condition values = followed (maybe_checked wide table moment all condition) (λ check.
    followed (all_sensed wide table moment all values) (λ senses. Ok (check, senses)))

module _ (table : TableColumns) (moment : Value) (parts : Parts) (all : List Named) where
  -- all from WHERE on, with what those before mean
  abbrev pub clauses_behind : List Sense → List Sense → Result Clauses TypeFault
  clauses_behind aliased items = followed (checked_list false table moment all parts.condition (listed parts.keys)) (λ w.
      followed (checked_list true table moment all parts.having (listed parts.order)) (λ e.
      Ok (record { using = aliased; items = items; condition = w.0; keys = w.1; having = e.0; order = e.1 })))

module _ (table : TableColumns) (moment : Value) (parts : Parts) (using all : List Named) where
  -- USING and SELECT
  abbrev pub selected_clauses : Bool → Result (List Sense × List Sense) TypeFault
  selected_clauses grouped = followed (items_sensed false table moment [] using parts.aliases) (λ aliased.
      followed (list_sensed grouped table moment using all parts.star parts.items) (λ items. Ok (aliased, items)))

  -- aggregates may stand in SELECT, HAVING and ORDER BY
  abbrev pub clauses_sensed : Bool → Result Clauses TypeFault
  clauses_sensed grouped = followed (selected_clauses grouped) (λ s. clauses_behind table moment parts all s.0 s.1)
