-- Why a run over a ledger gives no counts, and for what cause.
use Rattle.std.specs.Prelude.{◌≡◌, ℕ, List, Option, None}
use Rattle.std.specs.Bool.{⊤}
use Rattle.disk_model.specs.Disk.{DiskState}
use Rattle.commit.specs.declared.phases.Commit.{Commit}
use Rattle.commit.specs.Phases.{disk_of, ledger_of, stage_of}
use Rattle.ledger.specs.Reader.{Holds, Rests}
use Rattle.log_reading.specs.declared.span.Span.{Span}
use Rattle.lp_model.specs.Outside.{Folder, OnlyGrow}
use Rattle.positions.specs.Loads.{RefusedLoad}
use Rattle.positions.specs.declared.fault.LoadFault.{LoadFault}
use Rattle.positions.specs.declared.fault.LoadFault.TheVariants as P
use Rattle.positions.specs.declared.spans.SpanFault.{SpanFault}
use Rattle.positions.specs.declared.spans.SpanFault.TheVariants as F
use Rattle.run_model.specs.Logs.{Rotation}
use Rattle.tpl_output.specs.Sections.{Sections}
use Rattle.run_entry.specs.Entries.{Request}
use Rattle.checkpointed_run.specs.Begun.{HasClash, HasNoSpans, HasSpans}
use Rattle.checkpointed_run.specs.Clash.{first_clash}
use Rattle.checkpointed_run.specs.Committed.{StopsAtGate}
use Rattle.checkpointed_run.specs.Reasons.{StopsAtDamage, StopsFor}
use Rattle.checkpointed_run.specs.Stops.{HasReason, IsBeforeGate, IsFromGate}
use Rattle.checkpointed_run.specs.declared.running.RunStop.{RunStop}
use Rattle.checkpointed_run.specs.declared.over.LedgerStop.{LedgerStop}
use Rattle.checkpointed_run.specs.declared.over.LedgerStop.TheVariants as L

-- a call failed only where its object counted a fault
abbrev pub LoadReason : Type 0 → LoadFault → Type 0
LoadReason disk P.DiskFault = disk
LoadReason disk (P.LedgerFault part at) = ⊤
LoadReason disk P.Memory = ⊤

abbrev pub SpanReason : Type 0 → SpanFault → Type 0
SpanReason logs (F.NoSuchLog name) = ⊤
SpanReason logs (F.LostLog stem number) = ⊤
SpanReason logs (F.Shrunk name kept found) = ⊤
SpanReason logs (F.InputChanged kept given) = ⊤
SpanReason logs F.TooManyLogs = ⊤
SpanReason logs F.LogsFault = logs
SpanReason logs (F.BadName fault) = ⊤
SpanReason logs F.Memory = ⊤

abbrev pub HasCauses : Type 0 → Type 0 → LedgerStop → Type 0
HasCauses logs disk (L.Ledger fault) = LoadReason disk fault
HasCauses logs disk (L.Logs fault) = SpanReason logs fault
HasCauses logs disk (L.Clash name) = ⊤
HasCauses logs disk (L.Run stop) = HasReason logs disk stop
HasCauses logs disk L.Memory = ⊤

-- A run over spans was stopped from its gate on: by one commit, over what reads alone left of the disk, it was carried out and its entry
-- sealed, and a damage that it was told behind the gate is one of the frames there.
pub record StopsBehind {D : Type 0} (state : D → DiskState) (disk : DiskState) (ledger stage : List ℕ) (request : Request) (template : Sections) (began told : Option Folder) (spans : List Span) (stop : RunStop) : Type 0 where
  pub first : Commit D
  pub last : Commit D
  pub ledger_is : ledger_of first ≡ ledger
  pub stage_is : stage_of first ≡ stage
  pub rests : Rests disk (disk_of state first)
  pub stops : StopsAtGate state request template began told spans first last stop

-- a run over the spans that the logs have was stopped
pub record HasStopped {D : Type 0} (state : D → DiskState) (disk : DiskState) (ledger stage : List ℕ) (rotation : Rotation) (input : List ℕ) (texts : List (List ℕ)) (request : Request) (template : Sections) (before now : Option Folder) (stop : RunStop) : Type 0 where
  pub listed : Option Folder
  pub grows : OnlyGrow listed now
  pub spans : List Span
  pub has : HasSpans disk ledger rotation input texts before listed spans
  pub free : first_clash ledger stage spans ≡ None
  pub stops : StopsFor request template listed now spans stop
  pub behind : IsFromGate stop → StopsBehind state disk ledger stage request template listed now spans stop

-- why there are no counts: the ledger that a read gives is damaged, the logs behind FROM have no spans from where its runs left them, one of them is the ledger or the stage, or the run over them is stopped; memory is wanted only where the ledger fits
abbrev pub IsWithoutCounts : {D : Type 0} → (D → DiskState) → DiskState → List ℕ → List ℕ → Rotation → List ℕ → List (List ℕ) → Request → Sections → Option Folder → Option Folder → LedgerStop → Type 0
IsWithoutCounts state disk ledger stage rotation input texts request template before now (L.Ledger fault) = (file : List ℕ) → Holds disk ledger file → RefusedLoad file fault
IsWithoutCounts state disk ledger stage rotation input texts request template before now (L.Logs fault) = HasNoSpans disk ledger rotation input texts before now fault
IsWithoutCounts state disk ledger stage rotation input texts request template before now (L.Clash name) = HasClash disk ledger stage rotation input texts before now name
IsWithoutCounts state disk ledger stage rotation input texts request template before now (L.Run stop) = HasStopped state disk ledger stage rotation input texts request template before now stop
IsWithoutCounts state disk ledger stage rotation input texts request template before now L.Memory = (file : List ℕ) → Holds disk ledger file → RefusedLoad file P.Memory

-- it was stopped before its gate, or hadn't begun
abbrev pub IsStoppedBefore : LedgerStop → Type 0
IsStoppedBefore (L.Ledger fault) = ⊤
IsStoppedBefore (L.Logs fault) = ⊤
IsStoppedBefore (L.Clash name) = ⊤
IsStoppedBefore (L.Run stop) = IsBeforeGate stop
IsStoppedBefore L.Memory = ⊤

-- a damage that the run is told behind the load of the ledger
abbrev pub IsAtDamage : DiskState → List ℕ → List ℕ → LedgerStop → Type 0
IsAtDamage disk ledger stage (L.Ledger fault) = ⊤
IsAtDamage disk ledger stage (L.Logs fault) = ⊤
IsAtDamage disk ledger stage (L.Clash name) = ⊤
IsAtDamage disk ledger stage (L.Run stop) = StopsAtDamage disk ledger stage stop
IsAtDamage disk ledger stage L.Memory = ⊤

-- why there are none before the run
abbrev pub IsNotBegun : DiskState → List ℕ → Rotation → List ℕ → List (List ℕ) → Option Folder → Option Folder → LedgerStop → Type 0
IsNotBegun disk ledger rotation input texts before now (L.Ledger fault) = (file : List ℕ) → Holds disk ledger file → RefusedLoad file fault
IsNotBegun disk ledger rotation input texts before now (L.Logs fault) = HasNoSpans disk ledger rotation input texts before now fault
IsNotBegun disk ledger rotation input texts before now (L.Clash name) = ⊥
IsNotBegun disk ledger rotation input texts before now (L.Run stop) = ⊥
IsNotBegun disk ledger rotation input texts before now L.Memory = (file : List ℕ) → Holds disk ledger file → RefusedLoad file P.Memory
