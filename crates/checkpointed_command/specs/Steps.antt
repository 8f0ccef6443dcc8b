-- The step that a run with a checkpoint takes of a world in which it may run.
use Rattle.std.specs.Prelude.{◌≡◌, ℕ, ℤ, List, Option, Some, Result, Ok, Err, OnOk, IfOk, IfErr}
use Rattle.std.specs.Bool.{⊤}
use Rattle.disk_model.specs.Disk.{DiskState}
use Rattle.grammar.specs.Trees.{Placed}
use Rattle.lp_model.specs.Outside.{Folder}
use Rattle.command_words.specs.Table.{IsAsked}
use Rattle.command_words.specs.Usage.{AreFine}
use Rattle.command_words.specs.declared.spec.Spec.{Spec}
use Rattle.checkpointed_run.specs.Meaning.{meaning}
use Rattle.query_run.specs.declared.executing.Counts.{Counts}
use Rattle.reports.specs.declared.status.Status.{Status}
use Rattle.reports.specs.declared.status.Status.TheVariants as S
use Rattle.run_model.specs.Logs.{Logs}
use Rattle.run_model.specs.Meanings.{Asked}
use Rattle.run_model.specs.Steps.{Setting, Gain, MayRun, Ending, well, refused, disk_failed, RunStep}
use Rattle.checkpointed_run.specs.Entries.{Request}
use Rattle.tpl_output.specs.Sections.{Sections}
use Rattle.checkpointed_run.specs.Grounds.{IsRead, asked_by_request}
use Rattle.checkpointed_run.specs.Steps.{HasCounted}
use Rattle.checkpointed_command.specs.Asked.{IsAskedBy, IsAskedWhole}

-- how an answer ends a run: well, by a fault of the disk, or refused for another reason
abbrev pub ending_by : Status → Ending
ending_by S.Done = well
ending_by S.DiskFault = disk_failed
ending_by other = refused

abbrev pub ending_with : Result Counts Status → Ending
ending_with (Ok counts) = well
ending_with (Err status) = ending_by status

-- an answer tells of a damage
abbrev pub IsDamaged : Status → Type 0
IsDamaged (S.LedgerFault part at) = ⊤
IsDamaged other = ⊥

-- a run of what was asked is a step of the world: it tells of no damage there, and the entry that it commits has its counts
pub record StepsWith (setting : Setting) (asked : Asked) (before after : Logs) (old new : DiskState) (result : Result Counts Status) : Type 0 where
  pub step : RunStep meaning setting asked (ending_with result) before after old new
  pub undamaged : IfErr result (λ status. IsDamaged status → ⊥)
  pub counted : IfOk result (HasCounted setting before old new)

-- so it is in each world in which a request may run
abbrev pub TakesStepWith : Result Counts Status → Request → List ℕ → List ℕ → Option Folder → Option Folder → DiskState → DiskState → Type 0
TakesStepWith result request ledger stage told now old new =
    (words : List (List ℕ)) (template : Sections) (into : Placed) (setting : Setting) (before after : Logs) → IsRead words request template into → setting.ledger ≡ ledger → setting.stage ≡ stage
    → told ≡ Some before.folder → now ≡ Some after.folder → MayRun meaning setting (asked_by_request request) before old → Gain setting.rotation setting.parting before after
    → StepsWith setting (asked_by_request request) before after old new result

-- a run is a step of the world by what was asked of it, all of which was read where it comes to counts
pub record StepsBy (spec : Spec) (moment : ℤ) (setting : Setting) (before after : Logs) (old new : DiskState) (result : Result Counts Status) : Type 0 where
  pub asked : Asked
  pub is_asked : IsAskedBy (Some before.folder) (Some after.folder) spec moment asked
  pub steps : StepsWith setting asked before after old new result
  pub whole : OnOk result (IsAskedWhole (Some before.folder) (Some after.folder) spec asked)

-- so it is in each world in which it may run, whatever of its query and its template it comes to read
abbrev pub TakesSteps : Spec → List ℕ → List ℕ → ℤ → Option Folder → Option Folder → DiskState → DiskState → Result Counts Status → Type 0
TakesSteps spec ledger stage moment told now old new result =
    (words : List (List ℕ)) (setting : Setting) (before after : Logs) → AreFine words → IsAsked words spec → setting.ledger ≡ ledger → setting.stage ≡ stage
    → told ≡ Some before.folder → now ≡ Some after.folder → Gain setting.rotation setting.parting before after
    → ((asked : Asked) → IsAskedBy (Some before.folder) (Some after.folder) spec moment asked → MayRun meaning setting asked before old)
    → StepsBy spec moment setting before after old new result
