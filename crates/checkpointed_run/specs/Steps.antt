-- What a run over a ledger is in the world: how it ends, and the step that it takes.
use Rattle.std.specs.Prelude.{◌≡◌, ℕ, List, [], ◌∷◌, ◌++◌, Option, Some, Result, Ok, Err, IfOk, IfErr}
use Rattle.std.specs.Bool.{⊤}
use Rattle.grammar.specs.Trees.{Placed}
use Rattle.disk_model.specs.Disk.{DiskState, Files}
use Rattle.ledger_model.specs.Entries.{Entry}
use Rattle.recovery_model.specs.Recovered.{Recovers}
use Rattle.lp_model.specs.Outside.{Folder}
use Rattle.query_run.specs.declared.executing.Counts.{Counts}
use Rattle.ledger.specs.declared.refused.LedgerRefused.{LedgerRefused}
use Rattle.ledger.specs.declared.refused.LedgerRefused.TheVariants as C
use Rattle.positions.specs.declared.fault.LoadFault.{LoadFault}
use Rattle.positions.specs.declared.fault.LoadFault.TheVariants as P
use Rattle.run_model.specs.Logs.{Logs}
use Rattle.run_model.specs.Meanings.{Asked}
use Rattle.run_model.specs.Right.{IsSettled}
use Rattle.run_model.specs.Steps.{Setting, Gain, MayRun, Ending, well, refused, disk_failed, RunStep}
use Rattle.tpl_output.specs.Sections.{Sections}
use Rattle.run_entry.specs.Meaning.{meaning}
use Rattle.run_entry.specs.Entries.{Request}
use Rattle.checkpointed_run.specs.Grounds.{IsRead, asked_by_request}
use Rattle.checkpointed_run.specs.Stops.{IsDamagedStop}
use Rattle.checkpointed_run.specs.declared.running.RunStop.{RunStop}
use Rattle.checkpointed_run.specs.declared.running.RunStop.TheVariants as R
use Rattle.checkpointed_run.specs.declared.over.LedgerStop.{LedgerStop}
use Rattle.checkpointed_run.specs.declared.over.LedgerStop.TheVariants as L
use Rattle.run_entry.specs.RunFault.{RunFault}
use Rattle.run_entry.specs.RunFault.TheVariants as X

-- a fault of a phase: of the disk, or a damage that it found
abbrev pub phase_ending : LedgerRefused → Ending
phase_ending C.DiskFault = disk_failed
phase_ending (C.LedgerFault part at) = refused

abbrev pub load_ending : LoadFault → Ending
load_ending P.DiskFault = disk_failed
load_ending (P.LedgerFault part at) = refused
load_ending P.Memory = refused

abbrev pub fault_ending : RunFault → Ending
fault_ending (X.Plan fault) = refused
fault_ending (X.Refused why) = refused
fault_ending X.LogsFault = refused
fault_ending X.StageFault = disk_failed
fault_ending (X.ParseErrors log row) = refused
fault_ending X.Memory = refused

-- from the gate on only the disk stops a run
abbrev pub stop_ending : RunStop → Ending
stop_ending (R.Subquery fault) = refused
stop_ending (R.Refused fault) = fault_ending fault
stop_ending (R.BeforeGate fault) = phase_ending fault
stop_ending (R.FromGate fault) = disk_failed

abbrev pub ledger_ending : LedgerStop → Ending
ledger_ending (L.Ledger fault) = load_ending fault
ledger_ending (L.Logs fault) = refused
ledger_ending (L.Clash name) = refused
ledger_ending (L.Run stop) = stop_ending stop
ledger_ending L.Memory = refused

abbrev pub ending_of : Result Counts LedgerStop → Ending
ending_of (Ok counts) = well
ending_of (Err stop) = ledger_ending stop

-- a damage of the ledger or of the stage was told
abbrev pub IsLoadDamage : LoadFault → Type 0
IsLoadDamage P.DiskFault = ⊥
IsLoadDamage (P.LedgerFault part at) = ⊤
IsLoadDamage P.Memory = ⊥

abbrev pub IsDamaged : LedgerStop → Type 0
IsDamaged (L.Ledger fault) = IsLoadDamage fault
IsDamaged (L.Logs fault) = ⊥
IsDamaged (L.Clash name) = ⊥
IsDamaged (L.Run stop) = IsDamagedStop stop
IsDamaged L.Memory = ⊥

-- a read gives these entries and one more, which has these counts
pub record HasEntry (ledger stage : List ℕ) (entries : List Entry) (disk : DiskState) (counts : Counts) : Type 0 where
  pub entry : Entry
  pub after : Files
  pub recovers : Recovers ledger stage (entries ++ entry ∷ []) after disk.seen
  pub processed : entry.processed ≡ counts.processed
  pub output : entry.output ≡ counts.output
  pub bad : entry.bad ≡ counts.bad

-- a run's counts are those of the entry that it added to what a read gave
pub record HasCounted (setting : Setting) (before : Logs) (old new : DiskState) (counts : Counts) : Type 0 where
  pub has : (entries : List Entry) (files : Files) → Recovers setting.ledger setting.stage entries files old.seen → IsSettled meaning before.written setting.start entries files → HasEntry setting.ledger setting.stage entries new counts

-- a run takes the step of a world in which it may run: it is told no damage, and its counts are its entry's
pub record StepsAs (setting : Setting) (asked : Asked) (before after : Logs) (old new : DiskState) (result : Result Counts LedgerStop) : Type 0 where
  pub step : RunStep meaning setting asked (ending_of result) before after old new
  pub undamaged : IfErr result (λ stop. IsDamaged stop → ⊥)
  pub counted : IfOk result (λ counts. HasCounted setting before old new counts)

-- A run of what was asked takes a step of any world in which it may run, over these two files and the logs as they were and as they are.
abbrev pub TakesStep : Result Counts LedgerStop → Request → List ℕ → List ℕ → Option Folder → Option Folder → DiskState → DiskState → Type 0
TakesStep result request ledger stage told now old new =
    (words : List (List ℕ)) (template : Sections) (into : Placed) (setting : Setting) (before after : Logs) → IsRead words request template into → setting.ledger ≡ ledger → setting.stage ≡ stage
    → told ≡ Some before.folder → now ≡ Some after.folder → MayRun meaning setting (asked_by_request request) before old → Gain setting.rotation setting.parting before after
    → StepsAs setting (asked_by_request request) before after old new result
