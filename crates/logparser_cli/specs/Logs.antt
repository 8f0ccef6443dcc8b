-- The logs that a query reads.
use Rattle.std.specs.Prelude.{◌≡◌, Bool, true, false, List, Option, ⊤}
pub use Rattle.checkpointed_command.specs.Listing.{AreListed, from_names}
use Rattle.grammar.specs.Trees as model
use Rattle.lp_model.specs.Outside.{Folder}
use Rattle.checkpoint.specs.Wholes.{whole_spans}
use Rattle.checkpointed_command.specs.Built.{reads_stdin}
use Rattle.log_listing.specs.declared.lengths.NameLength.{NameLength}
use Rattle.log_listing.specs.declared.fault.ListFault.{ListFault}
use Rattle.log_listing.specs.declared.fault.ListFault.TheVariants as L
use Rattle.log_listing.specs.Listed.{IsListFault}
use Rattle.log_reading.specs.declared.span.Span.{Span}
use Rattle.query_text.specs.Stdin.{names_in}
use Rattle.standard_input.specs.Streams.{input_logs}
use Rattle.reports.specs.declared.status.Status.{Status}
use Rattle.reports.specs.declared.status.Status.TheVariants.{Done, Memory, Clock, Usage, Query, NoSuchLog, BadName, NameClash, TooManyOutputs, TooManyLogs, Template, InputTooLong, LogsFault, SourceFault, DiskFault, SinkFault, ParseErrors, LostLog, Shrunk, InputChanged, IntoNeeded, LedgerFault}

-- these are what a query reads: the logs of its FROM names, or standard input alone
abbrev pub AreLogsOf : Bool → Option Folder → Option Folder → model.Query → List NameLength → Type 0
AreLogsOf false before now q logs = AreListed before now q logs
AreLogsOf true before now q logs = logs ≡ input_logs

abbrev pub AreLogs : Option Folder → Option Folder → model.Query → List NameLength → Type 0
AreLogs before now q logs = AreLogsOf (reads_stdin (names_in q)) before now q logs

-- these are the spans of what a query reads, each whole
pub record AreSpans (before now : Option Folder) (q : model.Query) (spans : List Span) : Type 0 where
  pub logs : List NameLength
  pub are_logs : AreLogs before now q logs
  pub wholes : spans ≡ whole_spans logs

-- why the FROM names list no logs
abbrev pub IsUnlisted : Option Folder → model.Query → Status → Type 0
IsUnlisted now q Done = ⊥
IsUnlisted now q Memory = ⊤
IsUnlisted now q (Clock at) = ⊥
IsUnlisted now q (Usage fault) = ⊥
IsUnlisted now q (Query fault) = ⊥
IsUnlisted now q (NoSuchLog name) = IsListFault now (from_names q) (L.NoSuchLog name)
IsUnlisted now q (BadName fault) = IsListFault now (from_names q) (L.BadName fault)
IsUnlisted now q (NameClash name) = ⊥
IsUnlisted now q TooManyOutputs = ⊥
IsUnlisted now q TooManyLogs = IsListFault now (from_names q) L.TooManyLogs
IsUnlisted now q (Template fault) = ⊥
IsUnlisted now q InputTooLong = ⊥
IsUnlisted now q LogsFault = ⊤
IsUnlisted now q SourceFault = ⊥
IsUnlisted now q DiskFault = ⊥
IsUnlisted now q SinkFault = ⊥
IsUnlisted now q (ParseErrors log row) = ⊥
IsUnlisted now q (LostLog stem number) = ⊥
IsUnlisted now q (Shrunk lost kept found) = ⊥
IsUnlisted now q (InputChanged kept given) = ⊥
IsUnlisted now q IntoNeeded = ⊥
IsUnlisted now q (LedgerFault part place) = ⊥

-- what a refusal of the list of logs is
abbrev pub unlisted : ListFault → Status
unlisted (L.BadName fault) = BadName fault
unlisted (L.NoSuchLog name) = NoSuchLog name
unlisted L.TooManyLogs = TooManyLogs
unlisted L.Logs = LogsFault
unlisted L.Memory = Memory
