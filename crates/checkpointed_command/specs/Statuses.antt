-- What each fault of a run is as its answer.
use Rattle.std.specs.Prelude.{◌≡◌, ◌⊎◌, Bool, true, false}
use Rattle.checkpointed_run.specs.RunFault.{RunFault}
use Rattle.checkpointed_run.specs.RunFault.TheVariants as X
use Rattle.ledger.specs.declared.refused.LedgerRefused.{LedgerRefused}
use Rattle.ledger.specs.declared.refused.LedgerRefused.TheVariants as C
use Rattle.positions.specs.declared.fault.LoadFault.{LoadFault}
use Rattle.positions.specs.declared.fault.LoadFault.TheVariants as P
use Rattle.positions.specs.declared.spans.SpanFault.{SpanFault}
use Rattle.positions.specs.declared.spans.SpanFault.TheVariants as F
use Rattle.query_text.specs.declared.fault.QueryFault.TheVariants as Q
use Rattle.reports.specs.declared.status.Status.{Status}
use Rattle.reports.specs.declared.status.Status.TheVariants.{Memory, Usage, Query, NoSuchLog, BadName, NameClash, TooManyOutputs, TooManyLogs, Template, LogsFault, DiskFault, SinkFault, ParseErrors, LostLog, Shrunk, InputChanged, LedgerFault}
use Rattle.requests.specs.declared.fault.NoTemplate.{NoTemplate}
use Rattle.requests.specs.declared.fault.NoTemplate.TheVariants as N
use Rattle.requests.specs.declared.fault.RequestFault.{RequestFault}
use Rattle.requests.specs.declared.fault.RequestFault.TheVariants as R
use Rattle.row_output.specs.declared.fault.Refused.{Refused}
use Rattle.row_output.specs.declared.fault.Refused.TheVariants as W
use Rattle.checkpointed_run.specs.SubqueryFault.{SubqueryFault}
use Rattle.checkpointed_run.specs.SubqueryFault.TheVariants as G
use Rattle.checkpointed_run.specs.declared.over.LedgerStop.{LedgerStop}
use Rattle.checkpointed_run.specs.declared.over.LedgerStop.TheVariants as L
use Rattle.checkpointed_run.specs.declared.running.RunStop.{RunStop}
use Rattle.checkpointed_run.specs.declared.running.RunStop.TheVariants as S

-- a refusal of the words or the query
abbrev pub unasked : RequestFault → Status
unasked (R.Usage fault) = Usage fault
unasked (R.BadName fault) = BadName fault
unasked (R.NoSuchLog name) = NoSuchLog name
unasked (R.Query fault) = Query fault
unasked R.Logs = LogsFault
unasked R.Memory = Memory

-- a refusal of a template
abbrev pub untemplated : NoTemplate → Status
untemplated (N.NoSuchLog name) = NoSuchLog name
untemplated (N.Fault fault) = Template fault
untemplated N.Logs = LogsFault
untemplated N.Memory = Memory

-- why an output is refused
abbrev pub unplaced : Refused → Status
unplaced W.TooManyOutputs = TooManyOutputs
unplaced (W.BadName fault) = BadName fault
unplaced (W.NameClash name) = NameClash name

-- a failed call of the outputs: of standard output, or of the disk
abbrev pub failed_output : Bool → Status
failed_output true = SinkFault
failed_output false = DiskFault

-- a run of a query that stopped, whose rows go to standard output or not
abbrev pub stopped : Bool → RunFault → Status
stopped standard (X.Plan fault) = Query (Q.Plan fault)
stopped standard (X.Refused why) = unplaced why
stopped standard X.LogsFault = LogsFault
stopped standard X.StageFault = failed_output standard
stopped standard (X.ParseErrors log row) = ParseErrors log row
stopped standard X.Memory = Memory

-- a fault of a phase of the commit: of the disk, or a damage that it found
abbrev pub unsettled : LedgerRefused → Status
unsettled C.DiskFault = DiskFault
unsettled (C.LedgerFault part at) = LedgerFault part at

-- why a ledger isn't loaded
abbrev pub unloaded : LoadFault → Status
unloaded P.DiskFault = DiskFault
unloaded (P.LedgerFault part at) = LedgerFault part at
unloaded P.Memory = Memory

-- why the logs behind FROM have no spans
abbrev pub unspanned : SpanFault → Status
unspanned (F.NoSuchLog name) = NoSuchLog name
unspanned (F.LostLog stem number) = LostLog stem number
unspanned (F.Shrunk name kept found) = Shrunk name kept found
unspanned (F.InputChanged kept given) = InputChanged kept given
unspanned F.TooManyLogs = TooManyLogs
unspanned F.LogsFault = LogsFault
unspanned (F.BadName fault) = BadName fault
unspanned F.Memory = Memory

-- why a subquery gives nothing
abbrev pub ungiven : SubqueryFault → Status
ungiven (G.BadName fault) = BadName fault
ungiven (G.NoSuchLog name) = NoSuchLog name
ungiven G.TooManyLogs = TooManyLogs
ungiven (G.Clash name) = NameClash name
ungiven (G.Plan fault) = Query (Q.Plan fault)
ungiven (G.Bad log row) = ParseErrors log row
ungiven G.Logs = LogsFault
ungiven G.Memory = Memory

-- an answer tells why; the name of a clash wants memory
abbrev pub IsUngivenAs : SubqueryFault → Status → Type 0
IsUngivenAs (G.Clash name) status = (status ≡ NameClash name) ⊎ (status ≡ Memory)
IsUngivenAs fault status = status ≡ ungiven fault

-- why a run over spans stopped; its rows never go to standard output
abbrev pub broken_off : RunStop → Status
broken_off (S.Subquery fault) = ungiven fault
broken_off (S.Refused fault) = stopped false fault
broken_off (S.BeforeGate fault) = unsettled fault
broken_off (S.FromGate fault) = unsettled fault

-- an answer tells why
abbrev pub IsBrokenOff : RunStop → Status → Type 0
IsBrokenOff (S.Subquery fault) status = IsUngivenAs fault status
IsBrokenOff stop status = status ≡ broken_off stop

-- why a run over a ledger gives no counts
abbrev pub uncounted : LedgerStop → Status
uncounted (L.Ledger fault) = unloaded fault
uncounted (L.Logs fault) = unspanned fault
uncounted (L.Clash name) = NameClash name
uncounted (L.Run stop) = broken_off stop
uncounted L.Memory = Memory

-- an answer tells why a run over a ledger gives no counts; the name of a clash wants memory
abbrev pub IsAnswerTo : LedgerStop → Status → Type 0
IsAnswerTo (L.Clash name) status = (status ≡ NameClash name) ⊎ (status ≡ Memory)
IsAnswerTo (L.Run stop) status = IsBrokenOff stop status
IsAnswerTo stop status = status ≡ uncounted stop
