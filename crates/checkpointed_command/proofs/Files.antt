-- Facts on the files of a commit, by the names of its ledger and its stage.
use Rattle.std.proofs.Common.{◌≡◌, ℕ, List, Option, Result, subst}
use Rattle.disk_model.specs.Disk.{DiskState}
use Rattle.lp_model.specs.Outside.{Folder}
use Rattle.command_words.specs.declared.modes.Rotation.{Rotation as Word}
use Rattle.commit.specs.Faults.{FitsWhole, IsApart}
use Rattle.commit.specs.Keeping.{KeepsEntries}
use Rattle.commit.specs.Known.{IsReadSince}
use Rattle.commit.specs.Resume.{CanSettle, Settles}
use Rattle.query_run.specs.declared.executing.Counts.{Counts}
use Rattle.checkpointed_run.specs.Entries.{Request}
use Rattle.ledger.specs.declared.walking.End.{End}
use Rattle.reports.specs.declared.status.Status.{Status}
use Rattle.checkpointed_run.specs.Steps.{TakesStep}
use Rattle.checkpointed_run.specs.declared.over.LedgerStop.{LedgerStop}
use Rattle.checkpointed_command.specs.Steps.{IsDamaged}

-- a disk was settled at most
abbrev pub Nears : DiskState → DiskState → List ℕ → List ℕ → Type 0
Nears old new ledger stage = CanSettle old ledger stage → Settles old new ledger stage

pub near_as : (old new : DiskState) (ledger stage l s : List ℕ) → ledger ≡ l → stage ≡ s → Nears old new ledger stage → Nears old new l s
near_as old new ledger stage l s ledger_is stage_is near = subst (λ (x : List ℕ). Nears old new x s) ledger_is (subst (λ (x : List ℕ). Nears old new ledger x) stage_is near)

pub known_as : (old new : DiskState) (known : Option End) (ledger l : List ℕ) → ledger ≡ l → IsReadSince old new ledger known → IsReadSince old new l known
known_as old new known ledger l is since = subst (λ (x : List ℕ). IsReadSince old new x known) is since

-- a fact by the names of the files, by how the logs are rotated and by their names
pub same_by : (ledger stage l s : List ℕ) → ledger ≡ l → stage ≡ s → (a b : Word) → a ≡ b → (texts names : List (List ℕ)) → texts ≡ names → (P : List ℕ → List ℕ → Word → List (List ℕ) → Type 0) → P ledger stage a texts → P l s b names
same_by ledger stage l s ledger_is stage_is a b rotation_is texts names names_are P p =
    subst (λ (x : List ℕ). P x s b names) ledger_is
    (subst (λ (x : List ℕ). P ledger x b names) stage_is (subst (λ (w : Word). P ledger stage w names) rotation_is (subst (λ (t : List (List ℕ)). P ledger stage a t) names_are p)))

pub step_as : (result : Result Counts LedgerStop) (request : Request) (told now : Option Folder) (old new : DiskState) (ledger stage l s : List ℕ) → ledger ≡ l → stage ≡ s → TakesStep result request ledger stage told now old new → TakesStep result request l s told now old new
step_as result request told now old new ledger stage l s ledger_is stage_is step =
    subst (λ (x : List ℕ). TakesStep result request x s told now old new) ledger_is (subst (λ (x : List ℕ). TakesStep result request ledger x told now old new) stage_is step)

pub fits_as : (old : DiskState) (ledger stage l s : List ℕ) → ledger ≡ l → stage ≡ s → (old.tells → IsApart ledger stage old.seen → FitsWhole ledger stage old.seen) → old.tells → IsApart l s old.seen → FitsWhole l s old.seen
fits_as old ledger stage l s ledger_is stage_is fits =
    subst (λ (x : List ℕ). old.tells → IsApart x s old.seen → FitsWhole x s old.seen) ledger_is (subst (λ (x : List ℕ). old.tells → IsApart ledger x old.seen → FitsWhole ledger x old.seen) stage_is fits)

pub keeps_as : (old new : DiskState) (ledger stage l s : List ℕ) → ledger ≡ l → stage ≡ s → (old.tells → IsApart ledger stage old.seen → KeepsEntries ledger old.seen new.seen) → old.tells → IsApart l s old.seen → KeepsEntries l old.seen new.seen
keeps_as old new ledger stage l s ledger_is stage_is keeps =
    subst (λ (x : List ℕ). old.tells → IsApart x s old.seen → KeepsEntries x old.seen new.seen) ledger_is (subst (λ (x : List ℕ). old.tells → IsApart ledger x old.seen → KeepsEntries ledger old.seen new.seen) stage_is keeps)

pub undamaged_as : (old : DiskState) (status : Status) (ledger stage l s : List ℕ) → ledger ≡ l → stage ≡ s → (IsDamaged status → CanSettle old ledger stage → ⊥) → IsDamaged status → CanSettle old l s → ⊥
undamaged_as old status ledger stage l s ledger_is stage_is none =
    subst (λ (x : List ℕ). IsDamaged status → CanSettle old x s → ⊥) ledger_is (subst (λ (x : List ℕ). IsDamaged status → CanSettle old ledger x → ⊥) stage_is none)
