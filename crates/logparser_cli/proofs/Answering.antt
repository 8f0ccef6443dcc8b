-- What the steps of a run make of its answer.
use Rattle.std.proofs.Common.{◌≡◌, ◌⊎◌, ℕ, ℤ, ◌+◌, ◌≤◌, Bool, true, false, List, Option, Result, Ok, Err, IfOk, OnErr, refl, inl, inr, subst, arith}
use Rattle.std.specs.Prelude.{option_map, ⊤}
use Rattle.grammar.specs.Filled.{given_bad}
use Rattle.grammar.specs.Trees as model
use Rattle.lp_model.specs.Outside.{Folder, OnlyGrow, Rose}
use Rattle.checkpoint.specs.Wholes.{whole_spans}
use Rattle.command_words.specs.declared.spec.Spec.{Spec}
use Rattle.checkpointed_command.specs.Built.{reads_stdin}
use Rattle.checkpointed_command.specs.Executed.{IsExecuted, IsMoment, IsUntouched, Writes, rows_in}
use Rattle.checkpointed_command.specs.Executed.{BadInTurn, BehindSample, HoldsFront as HoldsSpans, IsParseError as IsExceeded, IsStopped as IsStoppedIn, IsTyped, IsTypedInTurn, IsUnplaced as IsUnplacedIn, IsUnplanned as IsUnplannedIn, UnplacedInTurn, UnplacesAll as UnplacesSpans, WritesAll as WritesSpans}
use Rattle.checkpointed_command.specs.Formats.{lines_in, log_format}
use Rattle.checkpointed_command.specs.Outputs.{asked_in, is_standard}
use Rattle.checkpointed_command.specs.Plans.{query_plan}
use Rattle.checkpointed_command.specs.Texts.{into_in}
use Rattle.checkpointed_command.specs.Faults.{IfParse, IfPlan, IfRefused}
use Rattle.checkpointed_command.specs.Ran.{Ran}
use Rattle.checkpointed_command.specs.RunFault.{RunFault}
use Rattle.checkpointed_command.specs.RunFault.TheVariants as X
use Rattle.log_reading.specs.declared.span.Span.{Span}
use Rattle.log_reading.specs.Page.{IsTooMany, IsWithin}
use Rattle.log_reading.specs.Spans.{BadLine, spans_bad_lines, bad_line}
use Rattle.query_run.specs.declared.executing.Counts.{Counts}
use Rattle.query_text.specs.Stdin.{names_in}
use Rattle.query_text.specs.declared.fault.QueryFault.{QueryFault}
use Rattle.query_text.specs.declared.fault.QueryFault.TheVariants as Q
use Rattle.query_types.specs.declared.fault.TypeFault.{TypeFault}
use Rattle.query_types.specs.declared.table.TableColumns.{TableColumns}
use Rattle.order_top.specs.Finish.{Row}
use Rattle.row_output.specs.Asked.{Asked}
use Rattle.row_output.specs.Rows.{IsRefused as IsRefusedRow}
use Rattle.row_output.specs.declared.fault.Refused.{Refused}
use Rattle.row_output.specs.declared.fault.Refused.TheVariants as W
use Rattle.log_listing.specs.declared.lengths.NameLength.{NameLength}
use Rattle.reports.specs.declared.status.Status.{Status}
use Rattle.reports.specs.declared.status.Status.TheVariants.{Done, Memory, Clock, Usage, Query, NoSuchLog, BadName, NameClash, TooManyOutputs, TooManyLogs, Template, InputTooLong, LogsFault, SourceFault, DiskFault, SinkFault, ParseErrors, LostLog, Shrunk, InputChanged, IntoNeeded, LedgerFault}
use Rattle.reports.specs.Status.{OnRefused}
use Rattle.requests.specs.Requests.{Asks, IsRequestFault}
use Rattle.requests.specs.declared.fault.RequestFault.{RequestFault}
use Rattle.requests.specs.declared.fault.RequestFault.TheVariants as R
use Rattle.requests.proofs.Growing.{asks_grown}
use Rattle.logparser_cli.specs.Logs.{AreSpans, IsUnlisted}
use Rattle.logparser_cli.specs.Outputs.{HasFront, HasWritten, IsUnwritten, OutputRose, World, input_world, stream_world}
use Rattle.logparser_cli.specs.Whole.{Tells, told_statistics, IsFront, IsHalted, IsParseError, IsUnplaced, IsUnplanned, IsWhole, OnRows, UnplacesAll, WritesAll}
use Rattle.logparser_cli.specs.Answers.{IsStopped, IsUnplannable, AnswersInput, AnswersOf, AnswersOver, AnswersQuery, AnswersRun, IsUnasked, AnswersPlainly}
use Rattle.checkpointed_command.specs.Statuses.{failed_output, unasked, unplaced, stopped}
use Rattle.logparser_cli.proofs.Mapping.{executed_stops}
use Rattle.logparser_cli.proofs.Written.{written_front}
use Rattle.logparser_cli.specs.Input.{stopped_input}
use Rattle.standard_input.specs.Streams.{stream_files}
use Rattle.logparser_cli.specs.Templates.{IsTemplate, IsUntemplated, IsWithoutTemplate}
use Rattle.requests.proofs.Templates.{template_grown, template_since, fault_since}
use Rattle.tpl_output.specs.Sections.{Sections}
use Rattle.logparser_cli.specs.Subqueries.{IsFilled, IsRefusedBehind}
use Rattle.logparser_cli.proofs.Prepared.{filled_earlier, filled_later, refused_earlier}
use Rattle.logparser_cli.proofs.Wholes.{logs_earlier, logs_later, on_whole, whole_told}

pub on_refused : (status : Status) (P : Type 0) → P → OnRefused status P
on_refused Done P p = tt
on_refused Memory P p = p
on_refused (Clock at) P p = p
on_refused (Usage fault) P p = p
on_refused (Query fault) P p = p
on_refused (NoSuchLog name) P p = p
on_refused (BadName fault) P p = p
on_refused (NameClash name) P p = p
on_refused TooManyOutputs P p = p
on_refused TooManyLogs P p = p
on_refused (Template fault) P p = p
on_refused InputTooLong P p = p
on_refused LogsFault P p = p
on_refused SourceFault P p = p
on_refused DiskFault P p = p
on_refused SinkFault P p = p
on_refused (ParseErrors log row) P p = p
on_refused (LostLog stem number) P p = p
on_refused (Shrunk lost kept found) P p = p
on_refused (InputChanged kept given) P p = p
on_refused IntoNeeded P p = p
on_refused (LedgerFault part place) P p = p

-- a count that rose since a later moment has risen since an earlier one
pub rose_since : (a b c : ℕ) → a ≤ b → Rose b c → Rose a c
rose_since a b c later rose = omega arith

-- the FROM names list no logs
pub unlisted_answers : (old new : World) (template : Sections) (spec : Spec) (moment : ℤ) (q : model.Query) (status : Status) → IsUnlisted new.folder q status → IsUnwritten old.held new.held → (status ≡ LogsFault → Rose old.logs_faults new.logs_faults) → AnswersRun old new template spec moment q status
unlisted_answers old new template spec moment q Done is same rose = absurd is
unlisted_answers old new template spec moment q Memory is same rose = inl same
unlisted_answers old new template spec moment q (Clock at) is same rose = absurd is
unlisted_answers old new template spec moment q (Usage fault) is same rose = absurd is
unlisted_answers old new template spec moment q (Query fault) is same rose = absurd is
unlisted_answers old new template spec moment q (NoSuchLog name) is same rose = (is, same)
unlisted_answers old new template spec moment q (BadName fault) is same rose = inl (is, same)
unlisted_answers old new template spec moment q (NameClash name) is same rose = absurd is
unlisted_answers old new template spec moment q TooManyOutputs is same rose = absurd is
unlisted_answers old new template spec moment q TooManyLogs is same rose = (is, same)
unlisted_answers old new template spec moment q (Template fault) is same rose = absurd is
unlisted_answers old new template spec moment q InputTooLong is same rose = absurd is
unlisted_answers old new template spec moment q LogsFault is same rose = (inl same, rose refl)
unlisted_answers old new template spec moment q SourceFault is same rose = absurd is
unlisted_answers old new template spec moment q DiskFault is same rose = absurd is
unlisted_answers old new template spec moment q SinkFault is same rose = absurd is
unlisted_answers old new template spec moment q (ParseErrors log row) is same rose = absurd is
unlisted_answers old new template spec moment q (LostLog stem number) is same rose = absurd is
unlisted_answers old new template spec moment q (Shrunk lost kept found) is same rose = absurd is
unlisted_answers old new template spec moment q (InputChanged kept given) is same rose = absurd is
unlisted_answers old new template spec moment q IntoNeeded is same rose = absurd is
unlisted_answers old new template spec moment q (LedgerFault part place) is same rose = absurd is

-- a query was run over whole logs
pub whole : (old new : World) (mid : Option Folder) (template : Sections) (spec : Spec) (moment : ℤ) (q : model.Query) (spans : List Span) (counts : Counts) → AreSpans old.folder mid q spans → OnlyGrow mid new.folder
    → IsExecuted (log_format spec q) false new.folder (HasWritten old.held new.held) (asked_in spec template moment q spans) spec moment q spans counts → IsWithin spec.errors counts.bad → Tells old.err new.err (told_statistics spec.stats counts) (Rose old.err_faults new.err_faults) → IsWhole old new template spec moment q
whole old new mid template spec moment q spans counts found grow ran within told = record {
  logs = found.logs;
  are_logs = logs_later old.folder mid new.folder q found.logs grow found.are_logs;
  counts = counts;
  written = on_whole new.folder (log_format spec q) spec.ts_format found.logs spans (WritesSpans (log_format spec q) false new.folder (HasWritten old.held new.held) (asked_in spec template moment q spans) spec moment q spans counts) (WritesAll new.folder old.held new.held template spec moment q found.logs counts) found.wholes
      (λ table w. record {
        plan = w.plan;
        is_planned = w.is_planned;
        written = whole_told new.folder (log_format spec q) found.logs spans (λ s folder. Writes (HasWritten old.held new.held) (asked_in spec template moment q s) spec q (log_format spec q) false w.plan s counts folder) found.wholes w.written;
      })
      ran;
  within = within;
  told = told;
}

-- a fact on the rows of a plan over spans
rows_of : (told : Option Folder) (P : Asked → List Row → Type 0) (template : Sections) (spec : Spec) (moment : ℤ) (q : model.Query) (logs : List NameLength) (spans : List Span) (table : TableColumns) → spans ≡ whole_spans logs
    → HoldsSpans (log_format spec q) false told P (asked_in spec template moment q spans) spec moment q spans table → OnRows told P template spec moment q logs table
rows_of told P template spec moment q logs spans table wholes h = record {
  plan = h.plan;
  is_planned = h.is_planned;
  holds = whole_told told (log_format spec q) logs spans (λ s folder. P (asked_in spec template moment q s h.plan) (rows_in (log_format spec q) false spec.ts_format h.plan folder s)) wholes h.front;
}

-- nothing is written, or some of it
front_of : (old new : World) (template : Sections) (spec : Spec) (moment : ℤ) (q : model.Query) (logs : List NameLength) (spans : List Span) (table : TableColumns) → spans ≡ whole_spans logs
    → IsUnwritten old.held new.held ⊎ HoldsSpans (log_format spec q) false new.folder (HasFront old.held new.held) (asked_in spec template moment q spans) spec moment q spans table → IsUnwritten old.held new.held ⊎ OnRows new.folder (HasFront old.held new.held) template spec moment q logs table
front_of old new template spec moment q logs spans table wholes (inl same) = inl same
front_of old new template spec moment q logs spans table wholes (inr front) = inr (rows_of new.folder (HasFront old.held new.held) template spec moment q logs spans table wholes front)

-- the run stopped over these spans
abbrev pub StopsOver : World → World → Sections → Spec → ℤ → model.Query → List Span → Type 0
StopsOver old new template spec moment q spans = IsStoppedIn (log_format spec q) false new.folder (IsUnwritten old.held new.held) (HasFront old.held new.held) (asked_in spec template moment q spans) spec moment q spans

stopped_front : (old new : World) (template : Sections) (spec : Spec) (moment : ℤ) (q : model.Query) (logs : List NameLength) (spans : List Span) → spans ≡ whole_spans logs → StopsOver old new template spec moment q spans → IsFront new.folder old.held new.held template spec moment q logs
stopped_front old new template spec moment q logs spans wholes stop =
    on_whole new.folder (log_format spec q) spec.ts_format logs spans (λ table. IsUnwritten old.held new.held ⊎ HoldsSpans (log_format spec q) false new.folder (HasFront old.held new.held) (asked_in spec template moment q spans) spec moment q spans table)
    (λ table. IsUnwritten old.held new.held ⊎ OnRows new.folder (HasFront old.held new.held) template spec moment q logs table) wholes (λ table front. front_of old new template spec moment q logs spans table wholes front) stop

-- it stopped
halted : (old new : World) (mid : Option Folder) (template : Sections) (spec : Spec) (moment : ℤ) (q : model.Query) (spans : List Span) → AreSpans old.folder mid q spans → OnlyGrow mid new.folder → StopsOver old new template spec moment q spans → IsHalted old.folder new.folder old.held new.held template spec moment q
halted old new mid template spec moment q spans found grow stop = record {
  logs = found.logs;
  are_logs = logs_later old.folder mid new.folder q found.logs grow found.are_logs;
  front = stopped_front old new template spec moment q found.logs spans found.wholes stop;
}

-- a bad line was one too many
exceeded : (old new : World) (mid : Option Folder) (template : Sections) (spec : Spec) (moment : ℤ) (q : model.Query) (spans : List Span) (line : BadLine) → AreSpans old.folder mid q spans → OnlyGrow mid new.folder
    → StopsOver old new template spec moment q spans → IsExceeded (log_format spec q) false new.folder (IsUnwritten old.held new.held) (asked_in spec template moment q spans) spec moment q spans line → IsParseError old.folder new.folder old.held new.held template spec moment q line
exceeded old new mid template spec moment q spans line found grow stop e = record {
  logs = found.logs;
  are_logs = logs_later old.folder mid new.folder q found.logs grow found.are_logs;
  typed = subst (λ (s : List Span). IsTyped (log_format spec q) (asked_in spec template moment q s) moment q) found.wholes e.typed;
  exceeds = whole_told new.folder (log_format spec q) found.logs spans (λ s folder. IsTooMany spec.errors (given_bad q) (spans_bad_lines (lines_in (log_format spec q)) false folder s) line) found.wholes e.exceeds;
  in_turn = whole_told new.folder (log_format spec q) found.logs spans (λ s folder. BadInTurn (log_format spec q) false (IsUnwritten old.held new.held) (asked_in spec template moment q s) spec moment q s line folder) found.wholes e.in_turn;
  front = stopped_front old new template spec moment q found.logs spans found.wholes stop;
}

-- an output was refused
unplaced_is : (old new : World) (mid : Option Folder) (template : Sections) (spec : Spec) (moment : ℤ) (q : model.Query) (spans : List Span) (why : Refused) → AreSpans old.folder mid q spans → OnlyGrow mid new.folder
    → StopsOver old new template spec moment q spans → IsUnplacedIn (log_format spec q) false new.folder (asked_in spec template moment q spans) spec moment q spans why → IsUnplaced old.folder new.folder old.held new.held template spec moment q why
unplaced_is old new mid template spec moment q spans why found grow stop refused = record {
  logs = found.logs;
  are_logs = logs_later old.folder mid new.folder q found.logs grow found.are_logs;
  refused = on_whole new.folder (log_format spec q) spec.ts_format found.logs spans (UnplacesSpans (log_format spec q) false new.folder (asked_in spec template moment q spans) spec moment q spans why)
      (UnplacesAll new.folder template spec moment q found.logs why) found.wholes
      (λ table h. record {
        plan = h.plan;
        is_planned = h.is_planned;
        refused = whole_told new.folder (log_format spec q) found.logs spans (λ s folder. IsRefusedRow (asked_in spec template moment q s h.plan) (rows_in (log_format spec q) false spec.ts_format h.plan folder s) why) found.wholes h.refused;
        in_turn = whole_told new.folder (log_format spec q) found.logs spans (λ s folder. UnplacedInTurn (log_format spec q) false (asked_in spec template moment q s) spec q h.plan s why folder) found.wholes h.in_turn;
      })
      refused;
  front = stopped_front old new template spec moment q found.logs spans found.wholes stop;
}

unplaced_answers : (old new : World) (template : Sections) (spec : Spec) (moment : ℤ) (q : model.Query) (why : Refused) → IsUnplaced old.folder new.folder old.held new.held template spec moment q why → AnswersRun old new template spec moment q (unplaced why)
unplaced_answers old new template spec moment q W.TooManyOutputs is = is
unplaced_answers old new template spec moment q (W.BadName fault) is = inr is
unplaced_answers old new template spec moment q (W.NameClash name) is = is

-- a call of the outputs failed
failed_answers : (old new : World) (template : Sections) (spec : Spec) (moment : ℤ) (q : model.Query) (standard : Bool) → is_standard (into_in q) ≡ standard → IsStopped old new template spec moment q → OutputRose standard (Rose old.disk_faults new.disk_faults) (Rose old.out_faults new.out_faults)
    → AnswersRun old new template spec moment q (failed_output standard)
failed_answers old new template spec moment q true into stop rose = (into, stop, rose)
failed_answers old new template spec moment q false into stop rose = (into, stop, rose)

-- no plan was made
unplanned : (old new : World) (mid : Option Folder) (spec : Spec) (moment : ℤ) (q : model.Query) (spans : List Span) (fault : TypeFault) → AreSpans old.folder mid q spans → OnlyGrow mid new.folder
    → IsUnplannedIn (log_format spec q) false new.folder spec moment q spans fault → IsTypedInTurn (log_format spec q) false new.folder spec q spans → IsUntouched (log_format spec q) false new.folder (IsUnwritten old.held new.held) spec spans → IsUnplanned old.folder new.folder old.held new.held spec moment q fault
unplanned old new mid spec moment q spans fault found grow plan turn before = record {
  logs = found.logs;
  are_logs = logs_later old.folder mid new.folder q found.logs grow found.are_logs;
  unplanned = on_whole new.folder (log_format spec q) spec.ts_format found.logs spans (λ table. query_plan table moment q ≡ Err fault) (λ table. query_plan table moment q ≡ Err fault) found.wholes (λ table is. is) plan;
  in_turn = whole_told new.folder (log_format spec q) found.logs spans (λ s folder. BehindSample (log_format spec q) false spec q s folder (λ up. ⊤)) found.wholes turn;
  unwritten = on_whole new.folder (log_format spec q) spec.ts_format found.logs spans (λ table. IsUnwritten old.held new.held) (λ table. IsUnwritten old.held new.held) found.wholes (λ table same. same) before;
}

pub stopped_answers : (old new : World) (mid : Option Folder) (template : Sections) (spec : Spec) (moment : ℤ) (q : model.Query) (spans : List Span) (standard : Bool) (fault : RunFault) → is_standard (into_in q) ≡ standard → AreSpans old.folder mid q spans → OnlyGrow mid new.folder
    → StopsOver old new template spec moment q spans → IfPlan {T = Unit {0}} (Err fault) (IsUnplannedIn (log_format spec q) false new.folder spec moment q spans)
    → IfPlan {T = Unit {0}} (Err fault) (λ f. IsTypedInTurn (log_format spec q) false new.folder spec q spans)
    → IfPlan {T = Unit {0}} (Err fault) (λ f. IsUntouched (log_format spec q) false new.folder (IsUnwritten old.held new.held) spec spans)
    → IfParse {T = Unit {0}} (Err fault) (IsExceeded (log_format spec q) false new.folder (IsUnwritten old.held new.held) (asked_in spec template moment q spans) spec moment q spans)
    → IfRefused {T = Unit {0}} (Err fault) (IsUnplacedIn (log_format spec q) false new.folder (asked_in spec template moment q spans) spec moment q spans)
    → (fault ≡ X.LogsFault → Rose old.logs_faults new.logs_faults) → (fault ≡ X.StageFault → OutputRose standard (Rose old.disk_faults new.disk_faults) (Rose old.out_faults new.out_faults)) → AnswersRun old new template spec moment q (stopped standard fault)
stopped_answers old new mid template spec moment q spans standard (X.Plan fault) into found grow stop plan turn before parse refused logs stage = unplanned old new mid spec moment q spans fault found grow plan turn before
stopped_answers old new mid template spec moment q spans standard (X.Refused why) into found grow stop plan turn before parse refused logs stage = unplaced_answers old new template spec moment q why (unplaced_is old new mid template spec moment q spans why found grow stop refused)
stopped_answers old new mid template spec moment q spans standard X.LogsFault into found grow stop plan turn before parse refused logs stage = (inr (halted old new mid template spec moment q spans found grow stop), logs refl)
stopped_answers old new mid template spec moment q spans standard X.StageFault into found grow stop plan turn before parse refused logs stage = failed_answers old new template spec moment q standard into (inr (halted old new mid template spec moment q spans found grow stop)) (stage refl)
stopped_answers old new mid template spec moment q spans standard (X.ParseErrors log row) into found grow stop plan turn before parse refused logs stage = exceeded old new mid template spec moment q spans (bad_line log row) found grow stop parse
stopped_answers old new mid template spec moment q spans standard X.Memory into found grow stop plan turn before parse refused logs stage = inr (halted old new mid template spec moment q spans found grow stop)

-- the same of standard input, in the place of logs
pub input_answers : (old new : World) (template : Sections) (spec : Spec) (moment : ℤ) (q : model.Query) (standard : Bool) (fault : RunFault) (first last : ℕ) → AnswersRun (stream_world (option_map stream_files old.input.left) first old) (stream_world (option_map stream_files old.input.left) last new) template spec moment q (stopped standard fault)
    → (fault ≡ X.LogsFault → Rose old.input.faults new.input.faults) → AnswersInput old new template spec moment q (stopped_input standard fault)
input_answers old new template spec moment q standard (X.Plan fault) first last s rose = inl (tt, s)
input_answers old new template spec moment q standard (X.Refused W.TooManyOutputs) first last s rose = inl (tt, s)
input_answers old new template spec moment q standard (X.Refused (W.BadName fault)) first last s rose = inl (tt, s)
input_answers old new template spec moment q standard (X.Refused (W.NameClash name)) first last s rose = inl (tt, s)
input_answers old new template spec moment q standard X.LogsFault first last s rose = inr (inl (refl, s.0, rose refl))
input_answers old new template spec moment q true X.StageFault first last s rose = inl (tt, s)
input_answers old new template spec moment q false X.StageFault first last s rose = inl (tt, s)
input_answers old new template spec moment q standard (X.ParseErrors log row) first last s rose = inl (tt, s)
input_answers old new template spec moment q standard X.Memory first last s rose = inl (tt, s)

-- a run that ended or stopped has stopped, where all that counts is how far it came
pub ended_stops : (old new : World) (mid : Option Folder) (template : Sections) (spec : Spec) (moment : ℤ) (q : model.Query) (spans : List Span) (result : Result Ran RunFault) → AreSpans old.folder mid q spans → OnlyGrow mid new.folder
    → IfOk result (λ ran. IsExecuted (log_format spec q) false new.folder (HasWritten old.held new.held) (asked_in spec template moment q spans) spec moment q spans ran.counts) → OnErr result (StopsOver old new template spec moment q spans) → IsStopped old new template spec moment q
ended_stops old new mid template spec moment q spans (Ok ran) found grow ended stopped =
    inr (halted old new mid template spec moment q spans found grow
    (executed_stops (log_format spec q) false new.folder (IsUnwritten old.held new.held) (HasWritten old.held new.held) (HasFront old.held new.held) (asked_in spec template moment q spans) spec moment q spans ran.counts
    (λ plan rows written. written_front old.held new.held (asked_in spec template moment q spans plan) rows written) ended))
ended_stops old new mid template spec moment q spans (Err fault) found grow ended stopped = inr (halted old new mid template spec moment q spans found grow stopped)

-- the same world with the logs as they were before
abbrev with_logs : World → Option Folder → ℕ → World
with_logs world folder faults = record { folder = folder; logs_faults = faults; held = world.held; disk_faults = world.disk_faults; out_faults = world.out_faults; err = world.err; err_faults = world.err_faults; input = world.input }

stop_earlier : (mid new : World) (before : Option Folder) (faults : ℕ) (template : Sections) (spec : Spec) (moment : ℤ) (q : model.Query) → OnlyGrow before mid.folder → IsStopped mid new template spec moment q → IsStopped (with_logs mid before faults) new template spec moment q
stop_earlier mid new before faults template spec moment q grow (inl same) = inl same
stop_earlier mid new before faults template spec moment q grow (inr stop) = inr (record { logs = stop.logs; are_logs = logs_earlier before mid.folder new.folder q stop.logs grow stop.are_logs; front = stop.front })

unplannable_earlier : (mid new : World) (before : Option Folder) (faults : ℕ) (spec : Spec) (moment : ℤ) (q : model.Query) (fault : QueryFault) → OnlyGrow before mid.folder → IsUnplannable mid new spec moment q fault → IsUnplannable (with_logs mid before faults) new spec moment q fault
unplannable_earlier mid new before faults spec moment q Q.TooLong grow s = absurd s
unplannable_earlier mid new before faults spec moment q Q.NotUtf8 grow s = absurd s
unplannable_earlier mid new before faults spec moment q (Q.Lex fault) grow s = absurd s
unplannable_earlier mid new before faults spec moment q (Q.Parse fault) grow s = absurd s
unplannable_earlier mid new before faults spec moment q (Q.StdinMisplaced at) grow s = absurd s
unplannable_earlier mid new before faults spec moment q (Q.Plan fault) grow s =
    record { logs = s.logs; are_logs = logs_earlier before mid.folder new.folder q s.logs grow s.are_logs; unplanned = s.unplanned; in_turn = s.in_turn; unwritten = s.unwritten }

unplaced_earlier : (mid new : World) (before : Option Folder) (faults : ℕ) (template : Sections) (spec : Spec) (moment : ℤ) (q : model.Query) (why : Refused) → OnlyGrow before mid.folder → IsUnplaced mid.folder new.folder mid.held new.held template spec moment q why → IsUnplaced before new.folder mid.held new.held template spec moment q why
unplaced_earlier mid new before faults template spec moment q why grow s = record { logs = s.logs; are_logs = logs_earlier before mid.folder new.folder q s.logs grow s.are_logs; refused = s.refused; front = s.front }

run_earlier : (mid new : World) (before : Option Folder) (faults : ℕ) (template : Sections) (spec : Spec) (moment : ℤ) (q : model.Query) (status : Status) → OnlyGrow before mid.folder → faults ≤ mid.logs_faults
    → AnswersRun mid new template spec moment q status → AnswersRun (with_logs mid before faults) new template spec moment q status
run_earlier mid new before faults template spec moment q Done grow later w = record { logs = w.logs; are_logs = logs_earlier before mid.folder new.folder q w.logs grow w.are_logs; counts = w.counts; written = w.written; within = w.within; told = w.told }
run_earlier mid new before faults template spec moment q Memory grow later s = stop_earlier mid new before faults template spec moment q grow s
run_earlier mid new before faults template spec moment q (Clock at) grow later s = absurd s
run_earlier mid new before faults template spec moment q (Usage fault) grow later s = absurd s
run_earlier mid new before faults template spec moment q (Query fault) grow later s = unplannable_earlier mid new before faults spec moment q fault grow s
run_earlier mid new before faults template spec moment q (NoSuchLog name) grow later s = s
run_earlier mid new before faults template spec moment q (BadName fault) grow later (inl s) = inl s
run_earlier mid new before faults template spec moment q (BadName fault) grow later (inr s) = inr (unplaced_earlier mid new before faults template spec moment q (W.BadName fault) grow s)
run_earlier mid new before faults template spec moment q (NameClash name) grow later s = unplaced_earlier mid new before faults template spec moment q (W.NameClash name) grow s
run_earlier mid new before faults template spec moment q TooManyOutputs grow later s = unplaced_earlier mid new before faults template spec moment q W.TooManyOutputs grow s
run_earlier mid new before faults template spec moment q TooManyLogs grow later s = s
run_earlier mid new before faults template spec moment q (Template fault) grow later s = absurd s
run_earlier mid new before faults template spec moment q InputTooLong grow later s = s
run_earlier mid new before faults template spec moment q LogsFault grow later s = (stop_earlier mid new before faults template spec moment q grow s.0, rose_since faults mid.logs_faults new.logs_faults later s.1)
run_earlier mid new before faults template spec moment q SourceFault grow later s = s
run_earlier mid new before faults template spec moment q DiskFault grow later s = (s.0, stop_earlier mid new before faults template spec moment q grow s.1, s.2)
run_earlier mid new before faults template spec moment q SinkFault grow later s = (s.0, stop_earlier mid new before faults template spec moment q grow s.1, s.2)
run_earlier mid new before faults template spec moment q (ParseErrors log row) grow later s = record { logs = s.logs; are_logs = logs_earlier before mid.folder new.folder q s.logs grow s.are_logs; typed = s.typed; exceeds = s.exceeds; in_turn = s.in_turn; front = s.front }
run_earlier mid new before faults template spec moment q (LostLog stem number) grow later s = absurd s
run_earlier mid new before faults template spec moment q (Shrunk lost kept found) grow later s = absurd s
run_earlier mid new before faults template spec moment q (InputChanged kept given) grow later s = absurd s
run_earlier mid new before faults template spec moment q IntoNeeded grow later s = absurd s
run_earlier mid new before faults template spec moment q (LedgerFault part place) grow later s = absurd s

-- over standard input nothing of the logs counts
over_earlier : (stdin : Bool) (mid new : World) (before : Option Folder) (faults : ℕ) (template : Sections) (spec : Spec) (moment : ℤ) (q : model.Query) (status : Status) → OnlyGrow before mid.folder → faults ≤ mid.logs_faults
    → AnswersOf stdin mid new template spec moment q status → AnswersOf stdin (with_logs mid before faults) new template spec moment q status
over_earlier false mid new before faults template spec moment q status grow later s = run_earlier mid new before faults template spec moment q status grow later s
over_earlier true mid new before faults template spec moment q status grow later s = s

-- nor of what its subqueries gave
given_earlier : (mid new : World) (before : Option Folder) (faults : ℕ) (template : Sections) (spec : Spec) (moment : ℤ) (q : model.Query) (status : Status) → OnlyGrow before mid.folder → faults ≤ mid.logs_faults
    → AnswersOver mid new template spec moment q status → AnswersOver (with_logs mid before faults) new template spec moment q status
given_earlier mid new before faults template spec moment q status grow later (inl u) =
    inl (record { unlisted = u.unlisted; unwritten = u.unwritten; rose = λ failed. rose_since faults mid.logs_faults new.logs_faults later (u.rose failed) })
given_earlier mid new before faults template spec moment q status grow later (inr (inl u)) = inr (inl (record {
  refused = refused_earlier spec moment before mid.folder new.folder q status grow u.refused;
  unwritten = u.unwritten;
  rose = λ failed. rose_since faults mid.logs_faults new.logs_faults later (u.rose failed);
}))
given_earlier mid new before faults template spec moment q status grow later (inr (inr r)) = inr (inr (record {
  whole = r.whole;
  is_filled = filled_earlier spec moment before mid.folder new.folder q r.whole grow r.is_filled;
  answers = over_earlier (reads_stdin (names_in q)) mid new before faults template spec moment r.whole status grow later r.answers;
}))

-- the subqueries gave what they have, and then the query was run
pub run_filled : (mid new : World) (before : Option Folder) (faults : ℕ) (template : Sections) (spec : Spec) (moment : ℤ) (q whole : model.Query) (status : Status) → OnlyGrow before mid.folder → faults ≤ mid.logs_faults → OnlyGrow mid.folder new.folder
    → IsFilled spec moment before mid.folder q whole → AnswersOf (reads_stdin (names_in q)) mid new template spec moment whole status → AnswersOver (with_logs mid before faults) new template spec moment q status
run_filled mid new before faults template spec moment q whole status grow later grew f answers = inr (inr (record {
  whole = whole;
  is_filled = filled_later spec moment before mid.folder new.folder q whole grew f;
  answers = over_earlier (reads_stdin (names_in q)) mid new before faults template spec moment whole status grow later answers;
}))

-- its logs aren't listed, or a subquery is refused
pub unprepared : (old new : World) (template : Sections) (spec : Spec) (moment : ℤ) (q : model.Query) (status : Status) (Unread : Type 0) → IsUnlisted new.folder q status × Unread ⊎ IsRefusedBehind spec moment old.folder new.folder q status → IsUnwritten old.held new.held
    → (status ≡ LogsFault → Rose old.logs_faults new.logs_faults) → AnswersOver old new template spec moment q status
unprepared old new template spec moment q status Unread (inl unlisted) same rose = inl (record { unlisted = unlisted.0; unwritten = same; rose = rose })
unprepared old new template spec moment q status Unread (inr refused) same rose = inr (inl (record { refused = refused; unwritten = same; rose = rose }))

untemplated_since : (before mid now : Option Folder) (name : List ℕ) (status : Status) → OnlyGrow before mid → IsUntemplated mid now name status → IsUntemplated before now name status
untemplated_since before mid now name Done grow s = s
untemplated_since before mid now name Memory grow s = s
untemplated_since before mid now name (Clock at) grow s = s
untemplated_since before mid now name (Usage fault) grow s = s
untemplated_since before mid now name (Query fault) grow s = s
untemplated_since before mid now name (NoSuchLog missing) grow s = s
untemplated_since before mid now name (BadName fault) grow s = s
untemplated_since before mid now name (NameClash clash) grow s = s
untemplated_since before mid now name TooManyOutputs grow s = s
untemplated_since before mid now name TooManyLogs grow s = s
untemplated_since before mid now name (Template fault) grow s = fault_since before mid now name fault grow s
untemplated_since before mid now name InputTooLong grow s = s
untemplated_since before mid now name LogsFault grow s = s
untemplated_since before mid now name SourceFault grow s = s
untemplated_since before mid now name DiskFault grow s = s
untemplated_since before mid now name SinkFault grow s = s
untemplated_since before mid now name (ParseErrors log row) grow s = s
untemplated_since before mid now name (LostLog stem number) grow s = s
untemplated_since before mid now name (Shrunk lost kept found) grow s = s
untemplated_since before mid now name (InputChanged kept given) grow s = s
untemplated_since before mid now name IntoNeeded grow s = s
untemplated_since before mid now name (LedgerFault part place) grow s = s

query_earlier : (mid new : World) (before : Option Folder) (faults : ℕ) (spec : Spec) (moment : ℤ) (q : model.Query) (status : Status) → OnlyGrow before mid.folder → faults ≤ mid.logs_faults
    → AnswersQuery mid new spec moment q status → AnswersQuery (with_logs mid before faults) new spec moment q status
query_earlier mid new before faults spec moment q status grow later (inl none) = inl (record {
  refused = record {
    output = none.refused.output;
    name = none.refused.name;
    named = none.refused.named;
    refused = untemplated_since before mid.folder new.folder none.refused.name status grow none.refused.refused;
  };
  unwritten = none.unwritten;
  rose = λ failed. rose_since faults mid.logs_faults new.logs_faults later (none.rose failed);
})
query_earlier mid new before faults spec moment q status grow later (inr read) = inr (record {
  template = read.template;
  is_template = λ asked. let is = read.is_template asked in record { name = is.name; named = is.named; holds = template_since before mid.folder new.folder is.name read.template grow is.holds };
  answers = given_earlier mid new before faults read.template spec moment q status grow later read.answers;
})

-- the template isn't read
pub unread_answers : (old new : World) (spec : Spec) (moment : ℤ) (q : model.Query) (status : Status) → IsWithoutTemplate old.folder new.folder spec q status → IsUnwritten old.held new.held → (status ≡ LogsFault → Rose old.logs_faults new.logs_faults) → AnswersQuery old new spec moment q status
unread_answers old new spec moment q status refused same rose = inl (record { refused = refused; unwritten = same; rose = rose })

-- a template was read, and the query answered
pub read_answers : (mid new : World) (before : Option Folder) (faults : ℕ) (spec : Spec) (moment : ℤ) (q : model.Query) (template : Sections) (status : Status) → OnlyGrow before mid.folder → faults ≤ mid.logs_faults → OnlyGrow mid.folder new.folder
    → IsTemplate before mid.folder spec q template → AnswersOver mid new template spec moment q status → AnswersQuery (with_logs mid before faults) new spec moment q status
read_answers mid new before faults spec moment q template status grow later grew found answers = inr (record {
  template = template;
  is_template = λ asked. let is = found asked in record { name = is.name; named = is.named; holds = template_grown before mid.folder new.folder is.name template grew is.holds };
  answers = given_earlier mid new before faults template spec moment q status grow later answers;
})

-- the words ask for a query, and the answer tells of it
pub asked_answers : (mid new : World) (before : Option Folder) (faults : ℕ) (moment : ℤ) (words : List (List ℕ)) (spec : Spec) (q : model.Query) (status : Status) → IsMoment moment → OnlyGrow before mid.folder → faults ≤ mid.logs_faults
    → OnlyGrow mid.folder new.folder → Asks before mid.folder words spec q → AnswersQuery mid new spec moment q status → AnswersPlainly moment words (with_logs mid before faults) new status
asked_answers mid new before faults moment words spec q status now grow later grew asks answers =
    inr (now, inr (record { spec = spec; q = q; asks = asks_grown before mid.folder new.folder words spec q grew asks; answers = query_earlier mid new before faults spec moment q status grow later answers }))

is_unasked : (old new : World) (words : List (List ℕ)) (fault : RequestFault) → IsRequestFault old.folder new.folder words fault → IsUnwritten old.held new.held → (fault ≡ R.Logs → Rose old.logs_faults new.logs_faults) → IsUnasked old new words (unasked fault)
is_unasked old new words (R.Usage fault) refused same rose = (refused, same)
is_unasked old new words (R.BadName fault) refused same rose = (refused, same)
is_unasked old new words (R.NoSuchLog name) refused same rose = (refused, same)
is_unasked old new words (R.Query fault) refused same rose = (refused, same)
is_unasked old new words R.Logs refused same rose = (rose refl, same)
is_unasked old new words R.Memory refused same rose = same

-- the words ask for nothing that can be done
pub unasked_answers : (old new : World) (moment : ℤ) (words : List (List ℕ)) (fault : RequestFault) → IsMoment moment → IsRequestFault old.folder new.folder words fault → IsUnwritten old.held new.held → (fault ≡ R.Logs → Rose old.logs_faults new.logs_faults)
    → AnswersPlainly moment words old new (unasked fault)
unasked_answers old new moment words fault now refused same rose = inr (now, inl (is_unasked old new words fault refused same rose))

-- the same world with more told on `err`
abbrev pub with_err : World → Option (List ℕ) → ℕ → World
with_err world err faults = record { folder = world.folder; logs_faults = world.logs_faults; held = world.held; disk_faults = world.disk_faults; out_faults = world.out_faults; err = err; err_faults = faults; input = world.input }

run_told : (old new : World) (err : Option (List ℕ)) (faults : ℕ) (template : Sections) (spec : Spec) (moment : ℤ) (q : model.Query) (status : Status) → (status ≡ Done → ⊥) → AnswersRun old new template spec moment q status → AnswersRun old (with_err new err faults) template spec moment q status
run_told old new err faults template spec moment q Done refused s = absurd (refused refl)
run_told old new err faults template spec moment q Memory refused s = s
run_told old new err faults template spec moment q (Clock at) refused s = s
run_told old new err faults template spec moment q (Usage fault) refused s = s
run_told old new err faults template spec moment q (Query fault) refused s = s
run_told old new err faults template spec moment q (NoSuchLog name) refused s = s
run_told old new err faults template spec moment q (BadName fault) refused s = s
run_told old new err faults template spec moment q (NameClash name) refused s = s
run_told old new err faults template spec moment q TooManyOutputs refused s = s
run_told old new err faults template spec moment q TooManyLogs refused s = s
run_told old new err faults template spec moment q (Template fault) refused s = s
run_told old new err faults template spec moment q InputTooLong refused s = s
run_told old new err faults template spec moment q LogsFault refused s = s
run_told old new err faults template spec moment q SourceFault refused s = s
run_told old new err faults template spec moment q DiskFault refused s = s
run_told old new err faults template spec moment q SinkFault refused s = s
run_told old new err faults template spec moment q (ParseErrors log row) refused s = s
run_told old new err faults template spec moment q (LostLog stem number) refused s = s
run_told old new err faults template spec moment q (Shrunk lost kept found) refused s = s
run_told old new err faults template spec moment q (InputChanged kept given) refused s = s
run_told old new err faults template spec moment q IntoNeeded refused s = s
run_told old new err faults template spec moment q (LedgerFault part place) refused s = s

input_told : (old new : World) (err : Option (List ℕ)) (faults : ℕ) (template : Sections) (spec : Spec) (moment : ℤ) (q : model.Query) (status : Status) → (status ≡ Done → ⊥) → AnswersInput old new template spec moment q status → AnswersInput old (with_err new err faults) template spec moment q status
input_told old new err faults template spec moment q status refused (inl (none, s)) = inl (none, run_told (input_world old old) (input_world old new) err faults template spec moment q status refused s)
input_told old new err faults template spec moment q status refused (inr (inl s)) = inr (inl s)
input_told old new err faults template spec moment q status refused (inr (inr s)) = inr (inr s)

over_told : (stdin : Bool) (old new : World) (err : Option (List ℕ)) (faults : ℕ) (template : Sections) (spec : Spec) (moment : ℤ) (q : model.Query) (status : Status) → (status ≡ Done → ⊥) → AnswersOf stdin old new template spec moment q status → AnswersOf stdin old (with_err new err faults) template spec moment q status
over_told false old new err faults template spec moment q status refused s = run_told old new err faults template spec moment q status refused s
over_told true old new err faults template spec moment q status refused s = input_told old new err faults template spec moment q status refused s

given_told : (old new : World) (err : Option (List ℕ)) (faults : ℕ) (template : Sections) (spec : Spec) (moment : ℤ) (q : model.Query) (status : Status) → (status ≡ Done → ⊥) → AnswersOver old new template spec moment q status → AnswersOver old (with_err new err faults) template spec moment q status
given_told old new err faults template spec moment q status refused (inl u) = inl (record { unlisted = u.unlisted; unwritten = u.unwritten; rose = u.rose })
given_told old new err faults template spec moment q status refused (inr (inl u)) = inr (inl (record { refused = u.refused; unwritten = u.unwritten; rose = u.rose }))
given_told old new err faults template spec moment q status refused (inr (inr r)) =
    inr (inr (record { whole = r.whole; is_filled = r.is_filled; answers = over_told (reads_stdin (names_in q)) old new err faults template spec moment r.whole status refused r.answers }))

query_told : (old new : World) (err : Option (List ℕ)) (faults : ℕ) (spec : Spec) (moment : ℤ) (q : model.Query) (status : Status) → (status ≡ Done → ⊥) → AnswersQuery old new spec moment q status → AnswersQuery old (with_err new err faults) spec moment q status
query_told old new err faults spec moment q status refused (inl none) = inl (record { refused = none.refused; unwritten = none.unwritten; rose = none.rose })
query_told old new err faults spec moment q status refused (inr read) =
    inr (record { template = read.template; is_template = read.is_template; answers = given_told old new err faults read.template spec moment q status refused read.answers })

unasked_told : (old new : World) (err : Option (List ℕ)) (faults : ℕ) (words : List (List ℕ)) (status : Status) → IsUnasked old new words status → IsUnasked old (with_err new err faults) words status
unasked_told old new err faults words Done s = s
unasked_told old new err faults words Memory s = s
unasked_told old new err faults words (Clock at) s = s
unasked_told old new err faults words (Usage fault) s = s
unasked_told old new err faults words (Query fault) s = s
unasked_told old new err faults words (NoSuchLog name) s = s
unasked_told old new err faults words (BadName fault) s = s
unasked_told old new err faults words (NameClash name) s = s
unasked_told old new err faults words TooManyOutputs s = s
unasked_told old new err faults words TooManyLogs s = s
unasked_told old new err faults words (Template fault) s = s
unasked_told old new err faults words InputTooLong s = s
unasked_told old new err faults words LogsFault s = s
unasked_told old new err faults words SourceFault s = s
unasked_told old new err faults words DiskFault s = s
unasked_told old new err faults words SinkFault s = s
unasked_told old new err faults words (ParseErrors log row) s = s
unasked_told old new err faults words (LostLog stem number) s = s
unasked_told old new err faults words (Shrunk lost kept found) s = s
unasked_told old new err faults words (InputChanged kept given) s = s
unasked_told old new err faults words IntoNeeded s = s
unasked_told old new err faults words (LedgerFault part place) s = s

-- a refusal says the same once it is told
pub told_answers : (old new : World) (err : Option (List ℕ)) (faults : ℕ) (moment : ℤ) (words : List (List ℕ)) (status : Status) → (status ≡ Done → ⊥) → AnswersPlainly moment words old new status → AnswersPlainly moment words old (with_err new err faults) status
told_answers old new err faults moment words status refused (inl clock) = inl (record { same = clock.same; none = clock.none; unwritten = clock.unwritten })
told_answers old new err faults moment words status refused (inr (now, inl none)) = inr (now, inl (unasked_told old new err faults words status none))
told_answers old new err faults moment words status refused (inr (now, inr asked)) =
    inr (now, inr (record { spec = asked.spec; q = asked.q; asks = asked.asks; answers = query_told old new err faults asked.spec moment asked.q status refused asked.answers }))

-- what a refusal says
pub refused_is : (status : Status) (P : Type 0) → (status ≡ Done → ⊥) → OnRefused status P → P
refused_is Done P refused p = absurd (refused refl)
refused_is Memory P refused p = p
refused_is (Clock at) P refused p = p
refused_is (Usage fault) P refused p = p
refused_is (Query fault) P refused p = p
refused_is (NoSuchLog name) P refused p = p
refused_is (BadName fault) P refused p = p
refused_is (NameClash name) P refused p = p
refused_is TooManyOutputs P refused p = p
refused_is TooManyLogs P refused p = p
refused_is (Template fault) P refused p = p
refused_is InputTooLong P refused p = p
refused_is LogsFault P refused p = p
refused_is SourceFault P refused p = p
refused_is DiskFault P refused p = p
refused_is SinkFault P refused p = p
refused_is (ParseErrors log row) P refused p = p
refused_is (LostLog stem number) P refused p = p
refused_is (Shrunk lost kept found) P refused p = p
refused_is (InputChanged kept given) P refused p = p
refused_is IntoNeeded P refused p = p
refused_is (LedgerFault part place) P refused p = p
