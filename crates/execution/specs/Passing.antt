-- How far the logs of a query are read ahead of what standard output has of its rows.
use Rattle.std.specs.Prelude.{◌≡◌, ◌⊎◌, ℕ, ℤ, Bool, List, Option, Ok, ⊤}
use Rattle.grammar.specs.Trees as model
use Rattle.lp_model.specs.Outside.{Folder}
use Rattle.input_tables.specs.declared.format.TableFormat.{TableFormat}
use Rattle.input_tables.specs.Tables.{lines_of, readings_of, table_of}
use Rattle.log_reading.specs.Found.{Found}
use Rattle.log_reading.specs.declared.span.Span.{Span}
use Rattle.lp_values.specs.declared.value.Value.{Value}
use Rattle.plan_rows.specs.Picks.{plan_picks}
use Rattle.query_run.specs.Ahead.{GoesAhead}
use Rattle.query_types.specs.Planned.{Planned}
use Rattle.row_output.specs.Asked.{Asked}
use Rattle.text_output.specs.Output.{StageKind}
use Rattle.execution.specs.declared.formats.LogFormat.{LogFormat}
use Rattle.execution.specs.declared.formats.LogFormat.TheVariants as F
use Rattle.execution.specs.Plans.{PlannedQuery, of_groups, of_rows, query_plan}

-- the output row that a plan makes of a record, where the format has a table
abbrev pub table_picks : TableFormat → Planned → Found → Option (List Value)
table_picks format plan = plan_picks (readings_of format) plan.items plan.condition

-- under a plan over rows, logs were read no more than a piece ahead of what standard output has of these; of one over groups nothing is said
abbrev pub GoesByPlan : {S : Type 0} → StageKind S → (S → S → Type 0) → TableFormat → Bool → Option Folder → List Span → ℕ → ℕ → S → S → Asked → PlannedQuery → Type 0
GoesByPlan kind goes format waits told spans given_before given_now start now asked (of_rows plan) =
    GoesAhead kind goes asked (table_picks format plan) (lines_of format) waits told spans given_before given_now start now
GoesByPlan kind goes format waits told spans given_before given_now start now asked (of_groups plan) = ⊤

-- logs were read by the plan of a query over the table of their format
pub record ReadsByPlan {S : Type 0} (kind : StageKind S) (goes : S → S → Type 0) (format : TableFormat) (waits : Bool) (told : Option Folder) (asked : PlannedQuery → Asked) (moment : ℤ) (q : model.Query) (spans : List Span) (given_before given_now : ℕ) (start now : S) : Type 0 where
  pub plan : PlannedQuery
  pub is_planned : query_plan (table_of format) moment q ≡ Ok plan
  pub ahead : GoesByPlan kind goes format waits told spans given_before given_now start now (asked plan) plan

-- so logs are read in one pass, or nothing of them is; of logs that tell their columns nothing is said
abbrev pub ReadsInPass : {S : Type 0} → StageKind S → (S → S → Type 0) → LogFormat → Bool → Option Folder → (PlannedQuery → Asked) → ℤ → model.Query → List Span → ℕ → ℕ → S → S → Type 0
ReadsInPass kind goes (F.Tabled format) waits told asked moment q spans given_before given_now start now =
    (given_now ≡ given_before) ⊎ ReadsByPlan kind goes format waits told asked moment q spans given_before given_now start now
ReadsInPass kind goes (F.Sampled options limit) waits told asked moment q spans given_before given_now start now = ⊤
