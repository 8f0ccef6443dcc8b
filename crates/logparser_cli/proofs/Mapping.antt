-- What a query writes, told in other words.
use Rattle.std.proofs.Common.{◌⊎◌, ℤ, Bool, List, Option, Some, None, Result, Ok, Err, IfOk, OnErr, inl, inr}
use Rattle.grammar.specs.Trees as model
use Rattle.lp_model.specs.Outside.{Folder, Told}
use Rattle.lp_time.specs.declared.piece.Piece.{Piece}
use Rattle.command_words.specs.declared.spec.Spec.{Spec}
use Rattle.log_reading.specs.declared.span.Span.{Span}
use Rattle.log_reading.specs.Spans.{AreKept, BadLine, bad_line}
use Rattle.order_top.specs.Finish.{Row}
use Rattle.query_run.specs.declared.executing.Counts.{Counts}
use Rattle.query_types.specs.declared.fault.TypeFault.{TypeFault}
use Rattle.query_types.specs.declared.table.TableColumns.{TableColumns}
use Rattle.row_output.specs.Asked.{Asked}
use Rattle.checkpointed_command.specs.LogFormat.{LogFormat}
use Rattle.checkpointed_command.specs.LogFormat.TheVariants as F
use Rattle.checkpointed_command.specs.RunFault.{RunFault}
use Rattle.checkpointed_command.specs.RunFault.TheVariants as X
use Rattle.checkpointed_command.specs.Faults.{IfParse, IfPlan}
use Rattle.checkpointed_command.specs.Formats.{lines_in}
use Rattle.checkpointed_command.specs.Plans.{PlannedQuery}
use Rattle.checkpointed_command.specs.Executed.{HoldsFront, IsExecuted, IsStopped, IsUntouched, OnTable, Writes, WritesAll, rows_in}

told_map : (told : Option Folder) (P Q : Folder → Type 0) → ((folder : Folder) → P folder → Q folder) → Told told P → Told told Q
told_map None P Q so p = tt
told_map (Some folder) P Q so p = so folder p

on_table_map : (format : LogFormat) (waits : Bool) (pattern : List Piece) (told : Option Folder) (spans : List Span) (P Q : TableColumns → Type 0) → ((table : TableColumns) → P table → Q table) → OnTable format waits pattern told spans P → OnTable format waits pattern told spans Q
on_table_map (F.Tabled format) waits pattern told spans P Q so p = so _ p
on_table_map (F.Sampled options limit) waits pattern None spans P Q so p = tt
on_table_map (F.Sampled options limit) waits pattern (Some folder) spans P Q so p = λ kept. so _ (p kept)

-- what is so of what is asked of a plan's rows
abbrev pub Follows : (Asked → List Row → Type 0) → (Asked → List Row → Type 0) → (PlannedQuery → Asked) → Type 0
Follows Has Other asked = (plan : PlannedQuery) (rows : List Row) → Has (asked plan) rows → Other (asked plan) rows

pub executed_map : (format : LogFormat) (waits : Bool) (told : Option Folder) (Has Other : Asked → List Row → Type 0) (asked : PlannedQuery → Asked) (spec : Spec) (moment : ℤ) (q : model.Query) (spans : List Span) (counts : Counts) → Follows Has Other asked
    → IsExecuted format waits told Has asked spec moment q spans counts → IsExecuted format waits told Other asked spec moment q spans counts
executed_map format waits told Has Other asked spec moment q spans counts so ran =
    on_table_map format waits spec.ts_format told spans (WritesAll format waits told Has asked spec moment q spans counts) (WritesAll format waits told Other asked spec moment q spans counts)
    (λ table w. record {
      plan = w.plan;
      is_planned = w.is_planned;
      written = told_map told (λ folder. AreKept (lines_in format) waits spans folder → Writes Has asked spec q format waits w.plan spans counts folder) (λ folder. AreKept (lines_in format) waits spans folder → Writes Other asked spec q format waits w.plan spans counts folder)
          (λ folder f kept. let r = f kept in record { has = so w.plan (rows_in format waits spec.ts_format w.plan folder spans) r.has; processed = r.processed; output = r.output; bad = r.bad }) w.written;
    }) ran

-- what was written whole was written up to its end
pub executed_stops : (format : LogFormat) (waits : Bool) (told : Option Folder) (Nothing : Type 0) (Has Front : Asked → List Row → Type 0) (asked : PlannedQuery → Asked) (spec : Spec) (moment : ℤ) (q : model.Query) (spans : List Span) (counts : Counts) → Follows Has Front asked
    → IsExecuted format waits told Has asked spec moment q spans counts → IsStopped format waits told Nothing Front asked spec moment q spans
executed_stops format waits told Nothing Has Front asked spec moment q spans counts so ran =
    on_table_map format waits spec.ts_format told spans (WritesAll format waits told Has asked spec moment q spans counts) (λ table. Nothing ⊎ HoldsFront format waits told Front asked spec moment q spans table)
    (λ table w. inr (record {
      plan = w.plan;
      is_planned = w.is_planned;
      front = told_map told (λ folder. AreKept (lines_in format) waits spans folder → Writes Has asked spec q format waits w.plan spans counts folder) (λ folder. AreKept (lines_in format) waits spans folder → Front (asked w.plan) (rows_in format waits spec.ts_format w.plan folder spans))
          (λ folder f kept. so w.plan (rows_in format waits spec.ts_format w.plan folder spans) (f kept).has) w.written;
    })) ran

front_map : (format : LogFormat) (waits : Bool) (told : Option Folder) (Nothing None' : Type 0) (Front Other : Asked → List Row → Type 0) (asked : PlannedQuery → Asked) (spec : Spec) (moment : ℤ) (q : model.Query) (spans : List Span) (table : TableColumns) → (Nothing → None') → Follows Front Other asked
    → Nothing ⊎ HoldsFront format waits told Front asked spec moment q spans table → None' ⊎ HoldsFront format waits told Other asked spec moment q spans table
front_map format waits told Nothing None' Front Other asked spec moment q spans table none so (inl nothing) = inl (none nothing)
front_map format waits told Nothing None' Front Other asked spec moment q spans table none so (inr holds) = inr (record {
  plan = holds.plan;
  is_planned = holds.is_planned;
  front = told_map told (λ folder. AreKept (lines_in format) waits spans folder → Front (asked holds.plan) (rows_in format waits spec.ts_format holds.plan folder spans)) (λ folder. AreKept (lines_in format) waits spans folder → Other (asked holds.plan) (rows_in format waits spec.ts_format holds.plan folder spans))
      (λ folder f kept. so holds.plan (rows_in format waits spec.ts_format holds.plan folder spans) (f kept)) holds.front;
})

pub stopped_map : (format : LogFormat) (waits : Bool) (told : Option Folder) (Nothing None' : Type 0) (Front Other : Asked → List Row → Type 0) (asked : PlannedQuery → Asked) (spec : Spec) (moment : ℤ) (q : model.Query) (spans : List Span) → (Nothing → None') → Follows Front Other asked
    → IsStopped format waits told Nothing Front asked spec moment q spans → IsStopped format waits told None' Other asked spec moment q spans
stopped_map format waits told Nothing None' Front Other asked spec moment q spans none so stop =
    on_table_map format waits spec.ts_format told spans (λ table. Nothing ⊎ HoldsFront format waits told Front asked spec moment q spans table) (λ table. None' ⊎ HoldsFront format waits told Other asked spec moment q spans table)
    (λ table front. front_map format waits told Nothing None' Front Other asked spec moment q spans table none so front) stop

pub untouched_map : (format : LogFormat) (waits : Bool) (told : Option Folder) (Nothing None' : Type 0) (spec : Spec) (spans : List Span) → (Nothing → None') → IsUntouched format waits told Nothing spec spans → IsUntouched format waits told None' spec spans
untouched_map format waits told Nothing None' spec spans none is = on_table_map format waits spec.ts_format told spans (λ table. Nothing) (λ table. None') (λ table nothing. none nothing) is

pub if_plan_map : {T : Type 0} (r : Result T RunFault) (P Q : TypeFault → Type 0) → ((fault : TypeFault) → P fault → Q fault) → IfPlan r P → IfPlan r Q
if_plan_map (Ok value) P Q so p = tt
if_plan_map (Err (X.Plan fault)) P Q so p = so fault p
if_plan_map (Err (X.Refused why)) P Q so p = tt
if_plan_map (Err X.LogsFault) P Q so p = tt
if_plan_map (Err X.StageFault) P Q so p = tt
if_plan_map (Err (X.ParseErrors log row)) P Q so p = tt
if_plan_map (Err X.Memory) P Q so p = tt

pub if_ok_map : {T E : Type 0} (r : Result T E) (P Q : T → Type 0) → ((value : T) → P value → Q value) → IfOk r P → IfOk r Q
if_ok_map (Ok value) P Q so p = so value p
if_ok_map (Err fault) P Q so p = tt

pub on_err_map : {T E : Type 0} (r : Result T E) (P Q : Type 0) → (P → Q) → OnErr r P → OnErr r Q
on_err_map (Ok value) P Q so p = tt
on_err_map (Err fault) P Q so p = so p

pub if_parse_map : {T : Type 0} (r : Result T RunFault) (P Q : BadLine → Type 0) → ((line : BadLine) → P line → Q line) → IfParse r P → IfParse r Q
if_parse_map (Ok value) P Q so p = tt
if_parse_map (Err (X.Plan fault)) P Q so p = tt
if_parse_map (Err (X.Refused why)) P Q so p = tt
if_parse_map (Err X.LogsFault) P Q so p = tt
if_parse_map (Err X.StageFault) P Q so p = tt
if_parse_map (Err (X.ParseErrors log row)) P Q so p = so (bad_line log row) p
if_parse_map (Err X.Memory) P Q so p = tt
