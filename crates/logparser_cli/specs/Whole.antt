-- What a run writes.
use Rattle.std.specs.Prelude.{◌≡◌, ◌⊎◌, ℕ, ℤ, Bool, true, false, List, [], Option, Ok, Err, ⊤}
use Rattle.grammar.specs.Filled.{given_bad}
use Rattle.grammar.specs.Trees as model
use Rattle.lp_model.specs.Outside.{Folder, Told, Gains, GainsSome, Rose}
use Rattle.lp_model.specs.Report.{statistics}
use Rattle.lp_time.specs.declared.piece.Piece.{Piece}
use Rattle.command_words.specs.declared.spec.Spec.{Spec}
use Rattle.checkpoint.specs.Wholes.{whole_spans}
use Rattle.checkpointed_command.specs.Executed.{BadInTurn, BehindSample, IsTyped, UnplacedInTurn, Writes, rows_in}
use Rattle.checkpointed_command.specs.Formats.{lines_in, log_format}
use Rattle.checkpointed_command.specs.Outputs.{asked_in}
use Rattle.checkpointed_command.specs.Plans.{PlannedQuery, query_plan}
use Rattle.checkpointed_command.specs.LogFormat.{LogFormat}
use Rattle.log_listing.specs.declared.lengths.NameLength.{NameLength}
use Rattle.log_reading.specs.Page.{IsTooMany, IsWithin}
use Rattle.log_reading.specs.Spans.{BadLine, spans_bad_lines}
use Rattle.order_top.specs.Finish.{Row}
use Rattle.query_run.specs.declared.executing.Counts.{Counts}
use Rattle.query_types.specs.declared.fault.TypeFault.{TypeFault}
use Rattle.query_types.specs.declared.table.TableColumns.{TableColumns}
use Rattle.row_output.specs.Asked.{Asked}
use Rattle.row_output.specs.Rows.{IsRefused}
use Rattle.row_output.specs.declared.fault.Refused.{Refused}
use Rattle.checkpointed_command.specs.Listing.{OnWhole as OnLines}
use Rattle.tpl_output.specs.Sections.{Sections}
use Rattle.logparser_cli.specs.Logs.{AreLogs}
use Rattle.logparser_cli.specs.Outputs.{Held, World, IsUnwritten, HasWritten, HasFront}

-- Without a checkpoint a last line without LF is a line too: no line waits, which `false` says below.

-- a fact on the table of a run over whole logs
abbrev pub OnWhole : LogFormat → List Piece → Option Folder → List NameLength → (TableColumns → Type 0) → Type 0
OnWhole format pattern told logs P = OnLines format false pattern told logs P

-- an output gains a text, or the front of it where its faults rose
abbrev pub Tells : Option (List ℕ) → Option (List ℕ) → List ℕ → Type 0 → Type 0
Tells before now text Rises = Gains before now text ⊎ (GainsSome before now text × Rises)

-- the statistics, unless they are switched off
abbrev pub told_statistics : Bool → Counts → List ℕ
told_statistics true counts = statistics counts.processed counts.output counts.bad
told_statistics false counts = []

-- the rows of the query's plan over a table are written
pub record WritesAll (told : Option Folder) (old new : Held) (template : Sections) (spec : Spec) (moment : ℤ) (q : model.Query) (logs : List NameLength) (counts : Counts) (table : TableColumns) : Type 0 where
  pub plan : PlannedQuery
  pub is_planned : query_plan table moment q ≡ Ok plan
  pub written : Told told (Writes (HasWritten old new) (asked_in spec template moment q (whole_spans logs)) spec q (log_format spec q) false plan (whole_spans logs) counts)

-- a whole run: what the query leaves of its rows over the whole logs is written, and `err` has gained the statistics; of bad
-- lines there were no more than there may be
pub record IsWhole (old new : World) (template : Sections) (spec : Spec) (moment : ℤ) (q : model.Query) : Type 0 where
  pub logs : List NameLength
  pub are_logs : AreLogs old.folder new.folder q logs
  pub counts : Counts
  pub written : OnWhole (log_format spec q) spec.ts_format new.folder logs (WritesAll new.folder old.held new.held template spec moment q logs counts)
  pub within : IsWithin spec.errors counts.bad
  pub told : Tells old.err new.err (told_statistics spec.stats counts) (Rose old.err_faults new.err_faults)

-- a fact on the rows of the query's plan over a table, and on what is asked of them
pub record OnRows (told : Option Folder) (P : Asked → List Row → Type 0) (template : Sections) (spec : Spec) (moment : ℤ) (q : model.Query) (logs : List NameLength) (table : TableColumns) : Type 0 where
  pub plan : PlannedQuery
  pub is_planned : query_plan table moment q ≡ Ok plan
  pub holds : Told told (λ folder. P (asked_in spec template moment q (whole_spans logs) plan) (rows_in (log_format spec q) false spec.ts_format plan folder (whole_spans logs)))

-- nothing was written, or some of it
abbrev pub IsFront : Option Folder → Held → Held → Sections → Spec → ℤ → model.Query → List NameLength → Type 0
IsFront now old new template spec moment q logs =
    OnWhole (log_format spec q) spec.ts_format now logs (λ table. IsUnwritten old new ⊎ OnRows now (HasFront old new) template spec moment q logs table)

-- a run over logs stopped
pub record IsHalted (before now : Option Folder) (old new : Held) (template : Sections) (spec : Spec) (moment : ℤ) (q : model.Query) : Type 0 where
  pub logs : List NameLength
  pub are_logs : AreLogs before now q logs
  pub front : IsFront now old new template spec moment q logs

-- of the bad lines of the whole logs, in order, this is the first that is one too many, in its turn
pub record IsParseError (before now : Option Folder) (old new : Held) (template : Sections) (spec : Spec) (moment : ℤ) (q : model.Query) (line : BadLine) : Type 0 where
  pub logs : List NameLength
  pub are_logs : AreLogs before now q logs
  pub typed : IsTyped (log_format spec q) (asked_in spec template moment q (whole_spans logs)) moment q
  pub exceeds : Told now (λ folder. IsTooMany spec.errors (given_bad q) (spans_bad_lines (lines_in (log_format spec q)) false folder (whole_spans logs)) line)
  pub in_turn : Told now (BadInTurn (log_format spec q) false (IsUnwritten old new) (asked_in spec template moment q (whole_spans logs)) spec moment q (whole_spans logs) line)
  pub front : IsFront now old new template spec moment q logs

-- an output of the rows of the query's plan over a table is refused by this fault, in its turn
pub record UnplacesAll (told : Option Folder) (template : Sections) (spec : Spec) (moment : ℤ) (q : model.Query) (logs : List NameLength) (why : Refused) (table : TableColumns) : Type 0 where
  pub plan : PlannedQuery
  pub is_planned : query_plan table moment q ≡ Ok plan
  pub refused : Told told (λ folder. IsRefused (asked_in spec template moment q (whole_spans logs) plan) (rows_in (log_format spec q) false spec.ts_format plan folder (whole_spans logs)) why)
  pub in_turn : Told told (UnplacedInTurn (log_format spec q) false (asked_in spec template moment q (whole_spans logs)) spec q plan (whole_spans logs) why)

-- an output of the rows is refused by this fault
pub record IsUnplaced (before now : Option Folder) (old new : Held) (template : Sections) (spec : Spec) (moment : ℤ) (q : model.Query) (why : Refused) : Type 0 where
  pub logs : List NameLength
  pub are_logs : AreLogs before now q logs
  pub refused : OnWhole (log_format spec q) spec.ts_format now logs (UnplacesAll now template spec moment q logs why)
  pub front : IsFront now old new template spec moment q logs

-- the query has no plan, by this fault, in its turn, and nothing was written
pub record IsUnplanned (before now : Option Folder) (old new : Held) (spec : Spec) (moment : ℤ) (q : model.Query) (fault : TypeFault) : Type 0 where
  pub logs : List NameLength
  pub are_logs : AreLogs before now q logs
  pub unplanned : OnWhole (log_format spec q) spec.ts_format now logs (λ table. query_plan table moment q ≡ Err fault)
  pub in_turn : Told now (λ folder. BehindSample (log_format spec q) false spec q (whole_spans logs) folder (λ up. ⊤))
  pub unwritten : OnWhole (log_format spec q) spec.ts_format now logs (λ table. IsUnwritten old new)
