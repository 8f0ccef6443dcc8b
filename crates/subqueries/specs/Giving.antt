-- What the subqueries of a query give: each is run over its own logs, whole, which are read as the query's are.
use Rattle.std.specs.Prelude.{◌≡◌, ◌+◌, ℕ, ℤ, Bool, true, false, List, [], ◌∷◌, ◌++◌, length, sum_by, if◌then◌else◌, Option, None, Ok, ⊤}
use Rattle.grammar.specs.Filled.{PlacedGiven, asked_places}
use Rattle.grammar.specs.Trees.{Given, Item, Queries, Query, no_queries, more_queries, place_of}
use Rattle.grammar.specs.Trees.{Query as query}
use Rattle.lp_model.specs.Outside.{Folder, OnlyGrow, Told}
use Rattle.lp_time.specs.declared.piece.Piece.{Piece}
use Rattle.lp_values.specs.declared.value.Value.{Value}
use Rattle.command_words.specs.declared.spec.Spec.{Spec}
use Rattle.checkpoint.specs.Wholes.{whole_spans}
use Rattle.execution.specs.declared.formats.LogFormat.{LogFormat}
use Rattle.execution.specs.Executed.{rows_in}
use Rattle.execution.specs.Formats.{lines_in, log_format}
use Rattle.execution.specs.Plans.{of_rows}
use Rattle.group_planning.specs.Subquery.{subquery_plan_of}
use Rattle.in_set.specs.Facts.{facts_of}
use Rattle.list_run.specs.declared.keep.Keep.{Keep}
use Rattle.list_run.specs.declared.keep.Keep.TheVariants as K
use Rattle.list_run.specs.Keeping.{kept_values}
use Rattle.list_run.specs.Lists.{values_of}
use Rattle.list_run.specs.Rules.{kind_first}
use Rattle.log_listing.specs.declared.lengths.NameLength.{NameLength}
use Rattle.log_listing.specs.Lengths.{names_in as listed_names}
use Rattle.log_reading.specs.Spans.{spans_bad}
use Rattle.query_types.specs.Planned.{Planned}
use Rattle.query_types.specs.declared.table.TableColumns.{TableColumns}
use Rattle.subqueries.specs.Listing.{AreListed, OnWhole, first_own, lines_wait}

abbrev pub listed_queries : Queries → List Query
listed_queries no_queries = []
listed_queries (more_queries q qs) = q ∷ listed_queries qs

-- the subqueries of a query, in the order of the text
abbrev pub subqueries_of : Query → List Query
subqueries_of (query.query parts subqueries) = listed_queries subqueries

-- the place of a subquery's expression
abbrev pub first_place : List Item → ℕ
first_place [] = 0
first_place (item ∷ items) = place_of item.value

abbrev pub expression_place : Query → ℕ
expression_place (query.query parts subqueries) = first_place parts.items

-- what is kept of a subquery's values, in order: with a checkpoint all of them, under DISTINCT the first occurrences alone
abbrev pub keep_for : Bool → Query → Keep
keep_for false q = K.Nothing
keep_for true (query.query parts subqueries) = if parts.distinct then K.Distinct else K.All

-- the values of the plan's rows of all records are remembered, what is to be kept of them is kept, and the bad lines were counted
pub record Remembers (format : LogFormat) (waits : Bool) (keep : Keep) (pattern : List Piece) (plan : Planned) (given : Given) (list : List Value) (logs : List NameLength) (folder : Folder) : Type 0 where
  pub values : given.values ≡ facts_of (values_of (rows_in format waits pattern (of_rows plan) folder (whole_spans logs)))
  pub kept : list ≡ kept_values keep (values_of (rows_in format waits pattern (of_rows plan) folder (whole_spans logs)))
  pub bad : given.bad ≡ length (spans_bad (lines_in format) waits folder (whole_spans logs))

-- the plan of a subquery over a table gave this
pub record GivesOver (format : LogFormat) (waits : Bool) (pattern : List Piece) (told : Option Folder) (moment : ℤ) (q : Query) (given : Given) (list : List Value) (logs : List NameLength) (table : TableColumns) : Type 0 where
  pub plan : Planned
  pub is_planned : subquery_plan_of table moment q ≡ Ok plan
  pub kind : given.kind ≡ kind_first plan.kinds
  pub remembers : Told told (Remembers format waits (keep_for waits q) pattern plan given list logs)

-- a subquery gave this, and this list of it is kept: its logs were listed, none of which the run keeps for itself, and read as they were at
-- some moment between two
pub record Gives (format : LogFormat) (spec : Spec) (moment : ℤ) (before now : Option Folder) (q : Query) (given : Given) (list : List Value) : Type 0 where
  pub seen : Option Folder
  pub later : OnlyGrow seen now
  pub logs : List NameLength
  pub are_listed : AreListed before seen q logs
  pub free : first_own spec.checkpoint (listed_names logs) ≡ None
  pub names : given.logs ≡ listed_names logs
  pub place : given.place ≡ expression_place q
  pub over : OnWhole format (lines_wait spec) spec.ts_format seen logs (GivesOver format (lines_wait spec) spec.ts_format seen moment q given list logs)

-- subqueries gave these, one after the other, each for its place, and these lists of them are kept
abbrev pub AllGive : LogFormat → Spec → ℤ → Option Folder → Option Folder → List Query → List ℕ → List PlacedGiven → List (List Value) → Type 0
AllGive format spec moment before now [] [] [] [] = ⊤
AllGive format spec moment before now [] [] [] (list ∷ lists) = ⊥
AllGive format spec moment before now [] [] (given ∷ givens) lists = ⊥
AllGive format spec moment before now [] (place ∷ places) givens lists = ⊥
AllGive format spec moment before now (q ∷ qs) [] givens lists = ⊥
AllGive format spec moment before now (q ∷ qs) (place ∷ places) [] lists = ⊥
AllGive format spec moment before now (q ∷ qs) (place ∷ places) (given ∷ givens) [] = ⊥
AllGive format spec moment before now (q ∷ qs) (place ∷ places) (given ∷ givens) (list ∷ lists) =
    (given.at ≡ place) × Gives format spec moment before now q given.given list × AllGive format spec moment before now qs places givens lists

-- what they gave came behind others
pub record AddsGiven (format : LogFormat) (spec : Spec) (moment : ℤ) (before now : Option Folder) (qs : List Query) (places : List ℕ) (old new : List PlacedGiven) (kept keeps : List (List Value)) : Type 0 where
  pub added : List PlacedGiven
  pub new_is : new ≡ old ++ added
  pub lists : List (List Value)
  pub keeps_is : keeps ≡ kept ++ lists
  pub give : AllGive format spec moment before now qs places added lists

-- what one gave for a place came behind others, and its bad lines too
pub record AddsOne (format : LogFormat) (spec : Spec) (moment : ℤ) (before now : Option Folder) (q : Query) (place : ℕ) (old new : List PlacedGiven) (kept keeps : List (List Value)) (bad more : ℕ) : Type 0 where
  pub given : PlacedGiven
  pub at : given.at ≡ place
  pub list : List Value
  pub gives : Gives format spec moment before now q given.given list
  pub new_is : new ≡ old ++ given ∷ []
  pub keeps_is : keeps ≡ kept ++ list ∷ []
  pub more_is : more ≡ bad + given.given.bad

-- how many bad lines they met
abbrev pub bad_of : List PlacedGiven → ℕ
bad_of givens = sum_by (λ one. one.given.bad) givens

-- all subqueries of a query gave these, each for the IN that asks it, and this list of each is kept, without a checkpoint an empty one
abbrev pub GiveThese : Spec → ℤ → Option Folder → Option Folder → Query → List PlacedGiven → List (List Value) → Type 0
GiveThese spec moment before now q givens lists = AllGive (log_format spec q) spec moment before now (subqueries_of q) (asked_places q) givens lists
