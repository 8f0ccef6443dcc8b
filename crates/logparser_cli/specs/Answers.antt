-- What each answer of a run says.
use Rattle.std.specs.Prelude.{◌≡◌, ◌⊎◌, ◌+◌, ◌^◌, ℕ, ℤ, Bool, true, false, List, ⊤}
use Rattle.grammar.specs.Trees as model
use Rattle.lp_model.specs.Outside.{Rose}
use Rattle.command_words.specs.declared.spec.Spec.{Spec}
use Rattle.checkpointed_command.specs.Built.{reads_stdin}
use Rattle.checkpointed_command.specs.Executed.{IsMoment}
use Rattle.checkpointed_command.specs.Outputs.{is_standard}
use Rattle.checkpointed_command.specs.Texts.{into_in}
use Rattle.log_reading.specs.Spans.{bad_line}
use Rattle.query_text.specs.Stdin.{names_in}
use Rattle.query_text.specs.declared.fault.QueryFault.{QueryFault}
use Rattle.query_text.specs.declared.fault.QueryFault.TheVariants as Q
use Rattle.reports.specs.declared.status.Status.{Status}
use Rattle.reports.specs.declared.status.Status.TheVariants.{Done, Memory, Clock, Usage, Query, NoSuchLog, BadName, NameClash, TooManyOutputs, TooManyLogs, Template, InputTooLong, LogsFault, SourceFault, DiskFault, SinkFault, ParseErrors, LostLog, Shrunk, InputChanged, IntoNeeded, LedgerFault}
use Rattle.requests.specs.Requests.{Asks, IsRequestFault}
use Rattle.requests.specs.declared.fault.RequestFault.TheVariants as R
use Rattle.row_output.specs.declared.fault.Refused.TheVariants as W
use Rattle.tpl_output.specs.Sections.{Sections}
use Rattle.logparser_cli.specs.Logs.{IsUnlisted}
use Rattle.logparser_cli.specs.Subqueries.{IsFilled, IsUngiven, IsUnlistedRun}
use Rattle.logparser_cli.specs.Templates.{IsTemplate, IsWithoutTemplate}
use Rattle.logparser_cli.specs.Outputs.{World, IsUnwritten, input_world}
use Rattle.logparser_cli.specs.Whole.{IsWhole, IsHalted, IsParseError, IsUnplaced, IsUnplanned}

-- the query's fault is one of its plan
abbrev pub IsUnplannable : World → World → Spec → ℤ → model.Query → QueryFault → Type 0
IsUnplannable old new spec moment q Q.TooLong = ⊥
IsUnplannable old new spec moment q Q.NotUtf8 = ⊥
IsUnplannable old new spec moment q (Q.Lex fault) = ⊥
IsUnplannable old new spec moment q (Q.Parse fault) = ⊥
IsUnplannable old new spec moment q (Q.StdinMisplaced at) = ⊥
IsUnplannable old new spec moment q (Q.Plan fault) = IsUnplanned old.folder new.folder old.held new.held spec moment q fault

-- the run stopped before it wrote anything, or while it wrote
abbrev pub IsStopped : World → World → Sections → Spec → ℤ → model.Query → Type 0
IsStopped old new template spec moment q = IsUnwritten old.held new.held ⊎ IsHalted old.folder new.folder old.held new.held template spec moment q

-- the FROM names list no logs, and nothing was written
abbrev pub IsWithoutLogs : World → World → model.Query → Status → Type 0
IsWithoutLogs old new q status = IsUnlisted new.folder q status × IsUnwritten old.held new.held

-- what an answer says of a run over logs, whose output is by a template of these sections or by none
abbrev pub AnswersRun : World → World → Sections → Spec → ℤ → model.Query → Status → Type 0
AnswersRun old new template spec moment q Done = IsWhole old new template spec moment q
AnswersRun old new template spec moment q Memory = IsStopped old new template spec moment q
AnswersRun old new template spec moment q (Clock at) = ⊥
AnswersRun old new template spec moment q (Usage fault) = ⊥
AnswersRun old new template spec moment q (Query fault) = IsUnplannable old new spec moment q fault
AnswersRun old new template spec moment q (NoSuchLog name) = IsWithoutLogs old new q (NoSuchLog name)
AnswersRun old new template spec moment q (BadName fault) = IsWithoutLogs old new q (BadName fault) ⊎ IsUnplaced old.folder new.folder old.held new.held template spec moment q (W.BadName fault)
AnswersRun old new template spec moment q (NameClash name) = IsUnplaced old.folder new.folder old.held new.held template spec moment q (W.NameClash name)
AnswersRun old new template spec moment q TooManyOutputs = IsUnplaced old.folder new.folder old.held new.held template spec moment q W.TooManyOutputs
AnswersRun old new template spec moment q TooManyLogs = IsWithoutLogs old new q TooManyLogs
AnswersRun old new template spec moment q (Template fault) = ⊥
AnswersRun old new template spec moment q InputTooLong = ⊥
AnswersRun old new template spec moment q LogsFault = IsStopped old new template spec moment q × Rose old.logs_faults new.logs_faults
AnswersRun old new template spec moment q SourceFault = ⊥
AnswersRun old new template spec moment q DiskFault = (is_standard (into_in q) ≡ false) × IsStopped old new template spec moment q × Rose old.disk_faults new.disk_faults
AnswersRun old new template spec moment q SinkFault = (is_standard (into_in q) ≡ true) × IsStopped old new template spec moment q × Rose old.out_faults new.out_faults
AnswersRun old new template spec moment q (ParseErrors log row) = IsParseError old.folder new.folder old.held new.held template spec moment q (bad_line log row)
AnswersRun old new template spec moment q (LostLog stem number) = ⊥
AnswersRun old new template spec moment q (Shrunk lost kept found) = ⊥
AnswersRun old new template spec moment q (InputChanged kept given) = ⊥
AnswersRun old new template spec moment q IntoNeeded = ⊥
AnswersRun old new template spec moment q (LedgerFault part place) = ⊥

-- an answer that tells of no log by its name
abbrev pub NamesNoLog : Status → Type 0
NamesNoLog (NoSuchLog name) = ⊥
NamesNoLog TooManyLogs = ⊥
NamesNoLog LogsFault = ⊥
NamesNoLog other = ⊤

-- what an answer says of a run over standard input, which stands where the logs do: the same, but that it couldn't be read, or gave
-- 2^40 bytes
abbrev pub AnswersInput : World → World → Sections → Spec → ℤ → model.Query → Status → Type 0
AnswersInput old new template spec moment q status =
    NamesNoLog status × AnswersRun (input_world old old) (input_world old new) template spec moment q status
    ⊎ (status ≡ SourceFault) × IsStopped (input_world old old) (input_world old new) template spec moment q × Rose old.input.faults new.input.faults
    ⊎ (status ≡ InputTooLong) × IsStopped (input_world old old) (input_world old new) template spec moment q × (new.input.given ≡ old.input.given + 2 ^ 40)

abbrev pub AnswersOf : Bool → World → World → Sections → Spec → ℤ → model.Query → Status → Type 0
AnswersOf false old new template spec moment q status = AnswersRun old new template spec moment q status
AnswersOf true old new template spec moment q status = AnswersInput old new template spec moment q status

-- the subqueries gave what they have, and the query with it was run over what it reads
pub record IsRunFilled (old new : World) (template : Sections) (spec : Spec) (moment : ℤ) (q : model.Query) (status : Status) : Type 0 where
  pub whole : model.Query
  pub is_filled : IsFilled spec moment old.folder new.folder q whole
  pub answers : AnswersOf (reads_stdin (names_in q)) old new template spec moment whole status

-- what an answer says of a run over what the query and its subqueries read
abbrev pub AnswersOver : World → World → Sections → Spec → ℤ → model.Query → Status → Type 0
AnswersOver old new template spec moment q status = IsUnlistedRun old new q status ⊎ IsUngiven old new spec moment q status ⊎ IsRunFilled old new template spec moment q status

-- the template isn't read, and nothing was written
pub record IsUnread (old new : World) (spec : Spec) (q : model.Query) (status : Status) : Type 0 where
  pub refused : IsWithoutTemplate old.folder new.folder spec q status
  pub unwritten : IsUnwritten old.held new.held
  pub rose : status ≡ LogsFault → Rose old.logs_faults new.logs_faults

-- the output is by a template where it is by one
pub record IsRead (old new : World) (spec : Spec) (moment : ℤ) (q : model.Query) (status : Status) : Type 0 where
  pub template : Sections
  pub is_template : IsTemplate old.folder new.folder spec q template
  pub answers : AnswersOver old new template spec moment q status

-- what an answer says of a query: that its template isn't read, or what became of it
abbrev pub AnswersQuery : World → World → Spec → ℤ → model.Query → Status → Type 0
AnswersQuery old new spec moment q status = IsUnread old new spec q status ⊎ IsRead old new spec moment q status

-- the words ask for these options and this query, of which the answer tells
pub record Asked (moment : ℤ) (old new : World) (words : List (List ℕ)) (status : Status) : Type 0 where
  pub spec : Spec
  pub q : model.Query
  pub asks : Asks old.folder new.folder words spec q
  pub answers : AnswersQuery old new spec moment q status

-- the words ask for nothing that can be done, and the answer tells why
abbrev pub IsUnasked : World → World → List (List ℕ) → Status → Type 0
IsUnasked old new words Done = ⊥
IsUnasked old new words Memory = IsUnwritten old.held new.held
IsUnasked old new words (Clock at) = ⊥
IsUnasked old new words (Usage fault) = IsRequestFault old.folder new.folder words (R.Usage fault) × IsUnwritten old.held new.held
IsUnasked old new words (Query fault) = IsRequestFault old.folder new.folder words (R.Query fault) × IsUnwritten old.held new.held
IsUnasked old new words (NoSuchLog name) = IsRequestFault old.folder new.folder words (R.NoSuchLog name) × IsUnwritten old.held new.held
IsUnasked old new words (BadName fault) = IsRequestFault old.folder new.folder words (R.BadName fault) × IsUnwritten old.held new.held
IsUnasked old new words (NameClash name) = ⊥
IsUnasked old new words TooManyOutputs = ⊥
IsUnasked old new words TooManyLogs = ⊥
IsUnasked old new words (Template fault) = ⊥
IsUnasked old new words InputTooLong = ⊥
IsUnasked old new words LogsFault = Rose old.logs_faults new.logs_faults × IsUnwritten old.held new.held
IsUnasked old new words SourceFault = ⊥
IsUnasked old new words DiskFault = ⊥
IsUnasked old new words SinkFault = ⊥
IsUnasked old new words (ParseErrors log row) = ⊥
IsUnasked old new words (LostLog stem number) = ⊥
IsUnasked old new words (Shrunk lost kept found) = ⊥
IsUnasked old new words (InputChanged kept given) = ⊥
IsUnasked old new words IntoNeeded = ⊥
IsUnasked old new words (LedgerFault part place) = ⊥

-- the clock gives no moment
pub record IsClock (moment : ℤ) (old new : World) (status : Status) : Type 0 where
  pub same : status ≡ Clock moment
  pub none : ¬ IsMoment moment
  pub unwritten : IsUnwritten old.held new.held

-- what an answer says of words at a moment, without a checkpoint
abbrev pub AnswersPlainly : ℤ → List (List ℕ) → World → World → Status → Type 0
AnswersPlainly moment words old new status = IsClock moment old new status ⊎ IsMoment moment × (IsUnasked old new words status ⊎ Asked moment old new words status)
