-- Which fault comes first: a bad line that is one too many, one of the query's plan, or an output that is refused.
use Rattle.std.specs.Prelude.{◌≡◌, ◌⊎◌, ◌+◌, ℕ, ℤ, Bool, List, [], Option, Some, Ok, ⊤}
use Rattle.grammar.specs.Filled.{given_bad}
use Rattle.grammar.specs.Trees as model
use Rattle.lp_model.specs.Outside.{Folder}
use Rattle.lp_time.specs.declared.piece.Piece.{Piece}
use Rattle.lp_values.specs.declared.value.Value.{Value}
use Rattle.command_words.specs.declared.spec.Spec.{Spec}
use Rattle.delimited_input.specs.declared.options.DelimitedOptions.{DelimitedOptions}
use Rattle.delimited_input.specs.Lines.{delimited_lines}
use Rattle.log_reading.specs.Found.{Found}
use Rattle.log_reading.specs.Page.{IsWithin}
use Rattle.log_reading.specs.Spans.{BadLine, spans_found}
use Rattle.log_reading.specs.UpTo.{IsNextBad, UpTo, bad_up_to, found_up_to}
use Rattle.log_reading.specs.declared.span.Span.{Span}
use Rattle.query_types.specs.declared.table.TableColumns.{TableColumns}
use Rattle.input_tables.specs.Tables.{table_of}
use Rattle.column_kinds.specs.Past.{AreEnough}
use Rattle.column_kinds.specs.Spans.{first_log}
use Rattle.column_kinds.specs.declared.judging.Judged.{Judged}
use Rattle.column_kinds.specs.Judged.{judged}
use Rattle.column_kinds.specs.Judged.{table_of as table_with}
use Rattle.row_output.specs.Asked.{Asked}
use Rattle.row_output.specs.Rows.{IsRefused, IsRefusedEarly}
use Rattle.row_output.specs.declared.fault.Refused.{Refused}
use Rattle.execution.specs.declared.formats.LogFormat.{LogFormat}
use Rattle.execution.specs.declared.formats.LogFormat.TheVariants as F
use Rattle.execution.specs.Formats.{lines_in}
use Rattle.execution.specs.Plans.{PlannedQuery, of_groups, of_rows, query_plan, table_rows, told_rows}

-- the columns that logs tell: those of the first log that has any, of the kinds that the first records have
abbrev pub told_in : DelimitedOptions → Bool → ℕ → List Piece → Folder → List Span → Judged
told_in options waits limit pattern folder spans =
    let lines = delimited_lines options in
    judged limit pattern (first_log lines waits folder spans) (spans_found lines waits folder spans)

abbrev pub told_table : DelimitedOptions → Bool → ℕ → List Piece → Folder → List Span → TableColumns
told_table options waits limit pattern folder spans = table_with (told_in options waits limit pattern folder spans)

-- the table of a run over spans, which tell it, or which is known before
abbrev pub table_in : LogFormat → Bool → List Piece → Folder → List Span → TableColumns
table_in (F.Tabled format) waits pattern folder spans = table_of format
table_in (F.Sampled options limit) waits pattern folder spans = told_table options waits limit pattern folder spans

-- the output rows of some records of the spans, by a plan
abbrev pub rows_of : LogFormat → Bool → List Piece → Folder → List Span → PlannedQuery → List Found → List (List Value)
rows_of (F.Tabled format) waits pattern folder spans plan founds = table_rows format plan founds
rows_of (F.Sampled options limit) waits pattern folder spans plan founds = told_rows pattern (told_in options waits limit pattern folder spans) plan founds

-- these records have the sample from which the columns are judged; where a table is known before, none is asked
abbrev pub HasSample : LogFormat → List Found → Type 0
HasSample (F.Tabled format) founds = ⊤
HasSample (F.Sampled options limit) founds = AreEnough limit founds

-- by this plan an output may be refused before the last line is read: for a name without stars, or where rows of records go on as they come
abbrev pub IsEarly : PlannedQuery → Asked → Refused → Type 0
IsEarly (of_rows plan) asked why = IsRefusedEarly asked why
IsEarly (of_groups plan) asked why = IsRefused asked [] why

-- Of some first lines, which have the sample or are all, this is so; and with those of the query's subqueries no more are bad than may be.
pub record BehindSample (format : LogFormat) (waits : Bool) (spec : Spec) (q : model.Query) (spans : List Span) (folder : Folder) (So : UpTo waits folder spans → Type 0) : Type 0 where
  pub up : UpTo waits folder spans
  pub sample : HasSample format (found_up_to (lines_in format) waits folder spans up) ⊎ (up.rest ≡ [])
  pub within : IsWithin spec.errors (given_bad q + bad_up_to (lines_in format) waits folder spans up)
  pub so : So up

-- an output of the rows of some first lines is refused; these are all, where rows wait for the last
pub record IsUnplacedAt (format : LogFormat) (waits : Bool) (asked : PlannedQuery → Asked) (spec : Spec) (plan : PlannedQuery) (spans : List Span) (why : Refused) (folder : Folder) (up : UpTo waits folder spans) : Type 0 where
  pub refused : IsRefused (asked plan) (rows_of format waits spec.ts_format folder spans plan (found_up_to (lines_in format) waits folder spans up)) why
  pub early : IsEarly plan (asked plan) why ⊎ (up.rest ≡ [])

-- it is, behind the sample, and before a bad line is one too many
abbrev pub UnplacedInTurn : LogFormat → Bool → (PlannedQuery → Asked) → Spec → model.Query → PlannedQuery → List Span → Refused → Folder → Type 0
UnplacedInTurn format waits asked spec q plan spans why folder = BehindSample format waits spec q spans folder (IsUnplacedAt format waits asked spec plan spans why folder)

-- the query has a plan, and no output of the rows of these records is refused that may be before the last line is read
pub record ArePlaced (format : LogFormat) (waits : Bool) (asked : PlannedQuery → Asked) (spec : Spec) (moment : ℤ) (q : model.Query) (spans : List Span) (folder : Folder) (founds : List Found) : Type 0 where
  pub plan : PlannedQuery
  pub is_planned : query_plan (table_in format waits spec.ts_format folder spans) moment q ≡ Ok plan
  pub placed : (why : Refused) → IsEarly plan (asked plan) why → IsRefused (asked plan) (rows_of format waits spec.ts_format folder spans plan founds) why → ⊥

-- Behind some first lines comes this bad line, which is one too many with those of the query's subqueries: within the sample, and nothing was written, or behind it, and then all that these lines have is placed.
pub record BadInTurn (format : LogFormat) (waits : Bool) (Nothing : Type 0) (asked : PlannedQuery → Asked) (spec : Spec) (moment : ℤ) (q : model.Query) (spans : List Span) (line : BadLine) (folder : Folder) : Type 0 where
  pub up : UpTo waits folder spans
  pub next : IsNextBad (lines_in format) waits folder up.rest up.lines line
  pub most : spec.errors ≡ Some (given_bad q + bad_up_to (lines_in format) waits folder spans up)
  pub within : (HasSample format (found_up_to (lines_in format) waits folder spans up) → ⊥) → Nothing
  pub behind : HasSample format (found_up_to (lines_in format) waits folder spans up) → ArePlaced format waits asked spec moment q spans folder (found_up_to (lines_in format) waits folder spans up)
