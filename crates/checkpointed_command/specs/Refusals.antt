-- Why a run with a checkpoint comes to no counts, in the order of its work: the disk is settled, the query read, the template, and the
-- query run over the logs.
use Rattle.std.specs.Prelude.{◌≡◌, ◌⊎◌, ℕ, ℤ, List, map, Option}
use Rattle.commit.specs.Faults.{FitsWhole, IsApart}
use Rattle.commit.specs.Keeping.{KeepsEntries}
use Rattle.commit.specs.Known.{IsReadSince}
use Rattle.commit.specs.Resume.{CanSettle, Settles}
use Rattle.disk_model.specs.Disk.{DiskState}
use Rattle.grammar.specs.Trees.{Query}
use Rattle.lp_model.specs.Outside.{Folder, OnlyGrow}
use Rattle.command_words.specs.declared.spec.Spec.{Spec}
use Rattle.ledger.specs.declared.refused.LedgerRefused.{LedgerRefused}
use Rattle.ledger.specs.declared.walking.End.{End}
use Rattle.ledger_model.specs.Inputs.{input_text}
use Rattle.positions.specs.Spanning.{rule_of}
use Rattle.checkpointed_run.specs.Inputs.{input_for}
use Rattle.query_text.specs.Stdin.{names_in}
use Rattle.reports.specs.declared.status.Status.{Status}
use Rattle.reports.specs.declared.status.Status.TheVariants as S
use Rattle.requests.specs.Files.{IsTextFault}
use Rattle.requests.specs.Texts.{HoldsQuery}
use Rattle.requests.specs.declared.fault.NoTemplate.{NoTemplate}
use Rattle.requests.specs.declared.fault.RequestFault.{RequestFault}
use Rattle.tpl_output.specs.Sections.{Sections}
use Rattle.checkpointed_run.specs.Entries.{Request}
use Rattle.checkpointed_run.specs.Reasons.{IsDamage}
use Rattle.checkpointed_run.specs.Refusals.{IsAtDamage, IsWithoutCounts}
use Rattle.checkpointed_run.specs.Staged.{request_of}
use Rattle.checkpointed_run.specs.declared.over.LedgerStop.{LedgerStop}
use Rattle.checkpointed_command.specs.Asked.{IsFit, IsPrepared, IsUnfit}
use Rattle.checkpointed_command.specs.Templates.{HoldsNone}
use Rattle.checkpointed_command.specs.Statuses.{IsAnswerTo, unasked, unsettled, untemplated}

-- the disk isn't settled: it failed, or the ledger or the stage that it found is damaged
pub record IsUnsettled (disk : DiskState) (ledger stage : List ℕ) (status : Status) : Type 0 where
  pub fault : LedgerRefused
  pub damage : IsDamage disk ledger stage fault
  pub status_is : status ≡ unsettled fault

-- it is, as what was read of it fits, and its ledger's entries stay
pub record IsSettledBy (old new : DiskState) (ledger stage : List ℕ) : Type 0 where
  pub settles : CanSettle old ledger stage → Settles old new ledger stage
  pub fits : old.tells → IsApart ledger stage old.seen → FitsWhole ledger stage old.seen
  pub keeps : old.tells → IsApart ledger stage old.seen → KeepsEntries ledger old.seen new.seen
  pub tells : old.tells → new.tells

-- it was, and only read since; this much was known then of the end of its ledger
pub record IsSettledSince {D : Type 0} (state : D → DiskState) (old new : D) (ledger stage : List ℕ) (known : Option End) : Type 0 where
  pub settled : D
  pub by : IsSettledBy (state old) (state settled) ledger stage
  pub since : IsReadSince (state settled) (state new) ledger known

-- the query isn't read
pub record IsUnread (before now : Option Folder) (spec : Spec) (status : Status) : Type 0 where
  pub fault : RequestFault
  pub why : IsTextFault before now spec.query fault
  pub status_is : status ≡ unasked fault

-- it is, and may not run with a checkpoint
pub record IsUnsuited (before now : Option Folder) (spec : Spec) (status : Status) : Type 0 where
  pub text : List ℕ
  pub q : Query
  pub query : HoldsQuery before now spec.query text q
  pub why : IsUnfit q status

-- it may, and its template isn't read
pub record HasNoTemplate (before now : Option Folder) (spec : Spec) (status : Status) : Type 0 where
  pub text : List ℕ
  pub q : Query
  pub query : HoldsQuery before now spec.query text q
  pub fit : IsFit q
  pub fault : NoTemplate
  pub why : HoldsNone before now spec q fault
  pub status_is : status ≡ untemplated fault

-- a run of a request over the logs gives no counts
pub record IsCountless {D : Type 0} (state : D → DiskState) (disk : DiskState) (ledger stage : List ℕ) (began now : Option Folder) (request : Request) (template : Sections) (status : Status) : Type 0 where
  pub stop : LedgerStop
  pub why : IsWithoutCounts state disk ledger stage (rule_of request.spec.rotation) (input_text (input_for request.spec request.q)) (map (λ name. name.text) (names_in request.q)) request template began now stop
  pub damage : IsAtDamage disk ledger stage stop
  pub answers : IsAnswerTo stop status

-- all that comes before the logs was read, and the run over them gives no counts
pub record IsUncounted {D : Type 0} (state : D → DiskState) (disk : DiskState) (ledger stage : List ℕ) (before now : Option Folder) (spec : Spec) (moment : ℤ) (status : Status) : Type 0 where
  pub text : List ℕ
  pub q : Query
  pub bytes : List ℕ
  pub template : Sections
  pub prepared : IsPrepared before now spec text q bytes template
  pub began : Option Folder
  pub since : OnlyGrow before began
  pub countless : IsCountless state disk ledger stage began now (request_of spec q text bytes moment) template status

-- why a run that begins with a settled disk comes to no counts
abbrev pub IsRefusedBehind : {D : Type 0} → (D → DiskState) → DiskState → List ℕ → List ℕ → Option Folder → Option Folder → Spec → ℤ → Status → Type 0
IsRefusedBehind state disk ledger stage before now spec moment status =
    IsUnread before now spec status ⊎ IsUnsuited before now spec status ⊎ HasNoTemplate before now spec status ⊎ IsUncounted state disk ledger stage before now spec moment status ⊎ (status ≡ S.Memory)

-- the disk was settled, and the run is refused then
pub record IsRefusedThen {D : Type 0} (state : D → DiskState) (old : D) (ledger stage : List ℕ) (before now : Option Folder) (spec : Spec) (moment : ℤ) (status : Status) : Type 0 where
  pub settled : D
  pub settles : IsSettledBy (state old) (state settled) ledger stage
  pub refused : IsRefusedBehind state (state settled) ledger stage before now spec moment status

-- why a run with a checkpoint comes to no counts
abbrev pub IsCallRefused : {D : Type 0} → (D → DiskState) → D → List ℕ → List ℕ → Option Folder → Option Folder → Spec → ℤ → Status → Type 0
IsCallRefused state old ledger stage before now spec moment status =
    IsUnsettled (state old) ledger stage status ⊎ IsRefusedThen state old ledger stage before now spec moment status
