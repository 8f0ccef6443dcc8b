-- What a query writes over spans of logs.
use Rattle.std.specs.Prelude.{◌≡◌, ◌⊎◌, ◌+◌, ℕ, ℤ, Bool, List, [], length, pos, ◌≤ℤ◌, ◌<ℤ◌, Option, Ok, Err, ⊤}
use Rattle.grammar.specs.Filled.{given_bad}
use Rattle.grammar.specs.Trees as model
use Rattle.lp_model.specs.Outside.{Folder, Told}
use Rattle.lp_time.specs.declared.piece.Piece.{Piece}
use Rattle.lp_values.specs.declared.value.Value.{Value}
use Rattle.command_words.specs.declared.spec.Spec.{Spec}
use Rattle.delimited_input.specs.Lines.{delimited_lines}
use Rattle.log_reading.specs.declared.span.Span.{Span}
use Rattle.log_reading.specs.Page.{IsTooMany}
use Rattle.log_reading.specs.Spans.{AreKept, BadLine, spans_found, spans_bad, spans_bad_lines}
use Rattle.query_run.specs.declared.executing.Counts.{Counts}
use Rattle.query_types.specs.declared.fault.TypeFault.{TypeFault}
use Rattle.query_types.specs.declared.table.TableColumns.{TableColumns}
use Rattle.input_tables.specs.Tables.{lines_of, table_of}
use Rattle.execution.specs.declared.formats.LogFormat.{LogFormat}
use Rattle.execution.specs.declared.formats.LogFormat.TheVariants as F
use Rattle.execution.specs.Formats.{lines_in}
pub use Rattle.execution.specs.InTurn.{BadInTurn, BehindSample, IsEarly, UnplacedInTurn, told_in, told_table}
use Rattle.execution.specs.Plans.{PlannedQuery, query_plan, table_rows, told_rows}
use Rattle.row_output.specs.Asked.{Asked, left_of}
use Rattle.row_output.specs.Rows.{IsRefused}
use Rattle.row_output.specs.declared.fault.Refused.{Refused}

-- from 1970-01-01 00:00:00 to 9999-12-31 23:59:59
abbrev pub IsMoment : ℤ → Type 0
IsMoment moment = (pos 0 ≤ℤ moment) × (moment <ℤ pos 253402300800)

-- a fact on the table of a run; one that the logs tell is known where these tell their bytes, and each span begins as its log was kept
abbrev pub OnTable : LogFormat → Bool → List Piece → Option Folder → List Span → (TableColumns → Type 0) → Type 0
OnTable (F.Tabled format) waits pattern told spans P = P (table_of format)
OnTable (F.Sampled options limit) waits pattern told spans P = Told told (λ folder. AreKept (delimited_lines options) waits spans folder → P (told_table options waits limit pattern folder spans))

-- the output rows over spans, by a plan
abbrev pub rows_in : LogFormat → Bool → List Piece → PlannedQuery → Folder → List Span → List (List Value)
rows_in (F.Tabled format) waits pattern plan folder spans = table_rows format plan (spans_found (lines_of format) waits folder spans)
rows_in (F.Sampled options limit) waits pattern plan folder spans = told_rows pattern (told_in options waits limit pattern folder spans) plan (spans_found (delimited_lines options) waits folder spans)

-- Of what is asked of a plan's rows this is so; so many records, rows and bad lines were met, those of the query's subqueries before.
pub record Writes (Has : Asked → List (List Value) → Type 0) (asked : PlannedQuery → Asked) (spec : Spec) (q : model.Query) (format : LogFormat) (waits : Bool) (plan : PlannedQuery) (spans : List Span) (counts : Counts) (folder : Folder) : Type 0 where
  pub has : Has (asked plan) (rows_in format waits spec.ts_format plan folder spans)
  pub processed : counts.processed ≡ length (spans_found (lines_in format) waits folder spans)
  pub output : counts.output ≡ length (left_of (asked plan) (rows_in format waits spec.ts_format plan folder spans))
  pub bad : counts.bad ≡ given_bad q + length (spans_bad (lines_in format) waits folder spans)

-- where each span begins as its log was kept, the rows of the query's plan over a table are written
pub record WritesAll (format : LogFormat) (waits : Bool) (told : Option Folder) (Has : Asked → List (List Value) → Type 0) (asked : PlannedQuery → Asked) (spec : Spec) (moment : ℤ) (q : model.Query) (spans : List Span) (counts : Counts) (table : TableColumns) : Type 0 where
  pub plan : PlannedQuery
  pub is_planned : query_plan table moment q ≡ Ok plan
  pub written : Told told (λ folder. AreKept (lines_in format) waits spans folder → Writes Has asked spec q format waits plan spans counts folder)

-- the query's rows are written
abbrev pub IsExecuted : LogFormat → Bool → Option Folder → (Asked → List (List Value) → Type 0) → (PlannedQuery → Asked) → Spec → ℤ → model.Query → List Span → Counts → Type 0
IsExecuted format waits told Has asked spec moment q spans counts = OnTable format waits spec.ts_format told spans (WritesAll format waits told Has asked spec moment q spans counts)

-- they were to be written
pub record HoldsFront (format : LogFormat) (waits : Bool) (told : Option Folder) (Front : Asked → List (List Value) → Type 0) (asked : PlannedQuery → Asked) (spec : Spec) (moment : ℤ) (q : model.Query) (spans : List Span) (table : TableColumns) : Type 0 where
  pub plan : PlannedQuery
  pub is_planned : query_plan table moment q ≡ Ok plan
  pub front : Told told (λ folder. AreKept (lines_in format) waits spans folder → Front (asked plan) (rows_in format waits spec.ts_format plan folder spans))

-- a run stopped before it wrote anything, or within the rows
abbrev pub IsStopped : LogFormat → Bool → Option Folder → Type 0 → (Asked → List (List Value) → Type 0) → (PlannedQuery → Asked) → Spec → ℤ → model.Query → List Span → Type 0
IsStopped format waits told Nothing Front asked spec moment q spans = OnTable format waits spec.ts_format told spans (λ table. Nothing ⊎ HoldsFront format waits told Front asked spec moment q spans table)

-- where each span begins as its log was kept, an output of the rows of the query's plan over a table is refused by this fault, in its turn
pub record UnplacesAll (format : LogFormat) (waits : Bool) (told : Option Folder) (asked : PlannedQuery → Asked) (spec : Spec) (moment : ℤ) (q : model.Query) (spans : List Span) (why : Refused) (table : TableColumns) : Type 0 where
  pub plan : PlannedQuery
  pub is_planned : query_plan table moment q ≡ Ok plan
  pub refused : Told told (λ folder. AreKept (lines_in format) waits spans folder → IsRefused (asked plan) (rows_in format waits spec.ts_format plan folder spans) why)
  pub in_turn : Told told (λ folder. AreKept (lines_in format) waits spans folder → UnplacedInTurn format waits asked spec q plan spans why folder)

-- an output of the rows is refused by this fault
abbrev pub IsUnplaced : LogFormat → Bool → Option Folder → (PlannedQuery → Asked) → Spec → ℤ → model.Query → List Span → Refused → Type 0
IsUnplaced format waits told asked spec moment q spans why = OnTable format waits spec.ts_format told spans (UnplacesAll format waits told asked spec moment q spans why)

-- over a table that is known before a log is read, where an output is refused for a name without stars this is so
abbrev pub IsNamedFirst : LogFormat → (PlannedQuery → Asked) → ℤ → model.Query → Type 0 → Refused → Type 0
IsNamedFirst (F.Tabled format) asked moment q So why = (plan : PlannedQuery) → query_plan (table_of format) moment q ≡ Ok plan → IsRefused (asked plan) [] why → So
IsNamedFirst (F.Sampled options limit) asked moment q So why = ⊤

-- over a table that is known before a log is read the query has a plan, and no output is refused for a name without stars
pub record IsTypedOver (asked : PlannedQuery → Asked) (moment : ℤ) (q : model.Query) (table : TableColumns) : Type 0 where
  pub plan : PlannedQuery
  pub is_planned : query_plan table moment q ≡ Ok plan
  pub named : (why : Refused) → IsRefused (asked plan) [] why → ⊥

abbrev pub IsTyped : LogFormat → (PlannedQuery → Asked) → ℤ → model.Query → Type 0
IsTyped (F.Tabled format) asked moment q = IsTypedOver asked moment q (table_of format)
IsTyped (F.Sampled options limit) asked moment q = ⊤

-- of the bad lines of the spans, in order, this is the first that is one too many, with those of the query's subqueries before; and it comes in its turn, before which nothing may be written
pub record IsParseError (format : LogFormat) (waits : Bool) (told : Option Folder) (Nothing : Type 0) (asked : PlannedQuery → Asked) (spec : Spec) (moment : ℤ) (q : model.Query) (spans : List Span) (line : BadLine) : Type 0 where
  pub typed : IsTyped format asked moment q
  pub exceeds : Told told (λ folder. AreKept (lines_in format) waits spans folder → IsTooMany spec.errors (given_bad q) (spans_bad_lines (lines_in format) waits folder spans) line)
  pub in_turn : Told told (λ folder. AreKept (lines_in format) waits spans folder → BadInTurn format waits Nothing asked spec moment q spans line folder)

-- a query has no plan, by this fault
abbrev pub IsUnplanned : LogFormat → Bool → Option Folder → Spec → ℤ → model.Query → List Span → TypeFault → Type 0
IsUnplanned format waits told spec moment q spans fault = OnTable format waits spec.ts_format told spans (λ table. query_plan table moment q ≡ Err fault)

-- it is told behind the sample, if that is asked, and no bad line there is one too many
abbrev pub IsTypedInTurn : LogFormat → Bool → Option Folder → Spec → model.Query → List Span → Type 0
IsTypedInTurn format waits told spec q spans = Told told (λ folder. AreKept (lines_in format) waits spans folder → BehindSample format waits spec q spans folder (λ up. ⊤))

-- nothing is written
abbrev pub IsUntouched : LogFormat → Bool → Option Folder → Type 0 → Spec → List Span → Type 0
IsUntouched format waits told Nothing spec spans = OnTable format waits spec.ts_format told spans (λ table. Nothing)
