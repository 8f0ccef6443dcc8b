-- What each answer of a run says, with a checkpoint and without one.
use Rattle.std.specs.Prelude.{◌≡◌, ◌⊎◌, ℕ, ℤ, ◌++◌, List, codes, Option, Some, None, Result, Ok, Err, IfOk, IfErr}
use Rattle.std.specs.Bool.{⊤}
use Rattle.disk_model.specs.Disk.{DiskState}
use Rattle.lp_model.specs.Outside.{Folder, Rose}
use Rattle.command_words.specs.Table.{IsAsked, checkpoint_of}
use Rattle.command_words.specs.Usage.{AreFine}
use Rattle.command_words.specs.Words.{query_in}
use Rattle.command_words.specs.declared.spec.Spec.{Spec}
use Rattle.checkpointed_command.specs.Executed.{IsMoment}
use Rattle.query_run.specs.declared.executing.Counts.{Counts}
use Rattle.reports.specs.declared.status.Status.{Status}
use Rattle.reports.specs.declared.status.Status.TheVariants as S
use Rattle.requests.specs.Given.{ReadsOnce, query_files}
use Rattle.checkpointed_command.specs.Counted.{IsWhole}
use Rattle.checkpointed_command.specs.Given.{ReadsKept}
use Rattle.checkpointed_command.specs.Refusals.{IsCallRefused}
use Rattle.checkpointed_command.specs.Steps.{TakesSteps}
use Rattle.logparser_cli.specs.Answers.{AnswersPlainly}
use Rattle.logparser_cli.specs.Outputs.{World}
use Rattle.logparser_cli.specs.Whole.{Tells, told_statistics}

-- the answer of a run that comes to counts, or doesn't
abbrev pub answer_of : Result Counts Status → Status
answer_of (Ok counts) = S.Done
answer_of (Err status) = status

-- the file beside a ledger in which runs are staged
abbrev pub stage_beside : List ℕ → List ℕ
stage_beside ledger = ledger ++ codes ".stage"

-- What an answer says of a run over a ledger: which step of the world it takes, what it did and tells on `err` where it comes to
-- counts, and why it comes to none. A fault of the logs or of the disk is one that was counted.
pub record AnswersLedger {D : Type 0} (state : D → DiskState) (old new : D) (spec : Spec) (ledger : List ℕ) (moment : ℤ) (before now : Option Folder) (err told : Option (List ℕ)) (logs_rose disk_rose err_rose : Type 0) (status : Status) : Type 0 where
  pub result : Result Counts Status
  pub status_is : status ≡ answer_of result
  pub step : TakesSteps spec ledger (stage_beside ledger) moment before now (state old) (state new) result
  pub whole : IfOk result (IsWhole state old ledger (stage_beside ledger) before now spec moment)
  pub refused : IfErr result (IsCallRefused state old ledger (stage_beside ledger) before now spec moment)
  pub told_counts : IfOk result (λ counts. Tells err told (told_statistics spec.stats counts) err_rose)
  pub logs : status ≡ S.LogsFault → logs_rose
  pub disk : status ≡ S.DiskFault → disk_rose

-- the words ask for a run over a ledger, of which the answer tells; standard output stays
pub record AnswersKept {D : Type 0} (state : D → DiskState) (disk disk_now : D) (moment : ℤ) (words : List (List ℕ)) (old new : World) (status : Status) : Type 0 where
  pub now : IsMoment moment
  pub spec : Spec
  pub fine : AreFine words
  pub options : IsAsked words spec
  pub ledger : List ℕ
  pub is_kept : spec.checkpoint ≡ Some ledger
  pub out : new.held.out ≡ old.held.out
  pub answers : AnswersLedger state disk disk_now spec ledger moment old.folder new.folder old.err new.err (Rose old.logs_faults new.logs_faults) (Rose old.disk_faults new.disk_faults) (Rose old.err_faults new.err_faults) status

-- a run is refused before it is known whether it has a checkpoint, and has left the disk alone
abbrev pub IsEarly : Status → Type 0
IsEarly (S.Clock at) = ⊤
IsEarly (S.Usage fault) = ⊤
IsEarly S.Memory = ⊤
IsEarly other = ⊥

abbrev pub IsPlain : {D : Type 0} → D → D → List (List ℕ) → Status → Type 0
IsPlain disk disk_now words status = (checkpoint_of words ≡ None) ⊎ IsEarly status × (disk_now ≡ disk)

-- what an answer says of words at a moment
abbrev pub Answers : {D : Type 0} → (D → DiskState) → D → D → ℤ → List (List ℕ) → World → World → Status → Type 0
Answers state disk disk_now moment words old new status = IsPlain disk disk_now words status × AnswersPlainly moment words old new status ⊎ AnswersKept state disk disk_now moment words old new status

-- the words ask for a run over a ledger, which reads no more than the query's file, the template and what stands behind kept places
pub record ReadsOver {D : Type 0} (state : D → DiskState) (disk : D) (before now : Option Folder) (words : List (List ℕ)) (given later : ℕ) : Type 0 where
  pub spec : Spec
  pub fine : AreFine words
  pub options : IsAsked words spec
  pub ledger : List ℕ
  pub is_kept : spec.checkpoint ≡ Some ledger
  pub reads : ReadsKept state disk ledger (stage_beside ledger) before now spec given later

-- before that no more is read than the query's file
abbrev pub ReadsLedger : {D : Type 0} → (D → DiskState) → D → Option Folder → Option Folder → List (List ℕ) → ℕ → ℕ → Type 0
ReadsLedger state disk before now words given later = ReadsOnce now (query_files (query_in words)) given later ⊎ ReadsOver state disk before now words given later
