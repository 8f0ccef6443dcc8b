-- A run with a checkpoint, from its settled disk on.
use Rattle.std.proofs.Common.{◌≡◌, ◌≢◌, ◌⊎◌, ℕ, ℤ, List, Option, Result, Ok, Err, IfErr, inl, inr, sym, subst, IfOk}
use Rattle.disk_model.specs.Disk.{DiskState}
use Rattle.lp_model.specs.Outside.{Folder, OnlyGrow}
use Rattle.grammar.specs.Trees.{Query}
use Rattle.command_words.specs.declared.spec.Spec.{Spec}
use Rattle.commit.specs.Faults.{FitsWhole, IsApart}
use Rattle.commit.specs.Keeping.{KeepsEntries}
use Rattle.ledger.specs.declared.walking.End.{End}
use Rattle.query_run.specs.declared.executing.Counts.{Counts}
use Rattle.reports.specs.declared.status.Status.{Status}
use Rattle.requests.specs.Texts.{HoldsQuery}
use Rattle.run_model.specs.Steps.{well}
use Rattle.checkpointed_command.specs.Counted.{IsCounted, IsWhole}
use Rattle.checkpointed_command.specs.Refusals.{IsCallRefused, IsRefusedBehind, IsSettledBy, IsSettledSince, IsUnread, IsUnsettled, IsUnsuited}
use Rattle.checkpointed_command.specs.Steps.{ending_by}
use Rattle.checkpointed_command.proofs.Answering.{IsMild, mild_unasked, mild_unfit, unsettled_not_well}
use Rattle.checkpointed_command.proofs.Files.{Nears, near_as, fits_as, keeps_as}

pub unsettled_ends : (disk : DiskState) (ledger stage : List ℕ) (status : Status) → IsUnsettled disk ledger stage status → ending_by status ≢ well
unsettled_ends disk ledger stage status is = subst (λ (s : Status). ending_by s ≢ well) (sym is.status_is) (unsettled_not_well is.fault)

pub mild_asking : (before now : Option Folder) (spec : Spec) (status : Status) → IsUnread before now spec status ⊎ IsUnsuited before now spec status → IsMild status
mild_asking before now spec status (inl unread) = subst IsMild (sym unread.status_is) (mild_unasked unread.fault)
mild_asking before now spec status (inr unsuited) = mild_unfit unsuited.q status unsuited.why

pub settled_by : (old new : DiskState) (ledger stage l s : List ℕ) → ledger ≡ l → stage ≡ s → Nears old new ledger stage → (old.tells → IsApart ledger stage old.seen → FitsWhole ledger stage old.seen)
    → (old.tells → IsApart ledger stage old.seen → KeepsEntries ledger old.seen new.seen) → (old.tells → new.tells) → IsSettledBy old new l s
settled_by old new ledger stage l s ledger_is stage_is near fits keeps tells = record {
  settles = near_as old new ledger stage l s ledger_is stage_is near;
  fits = fits_as old ledger stage l s ledger_is stage_is fits;
  keeps = keeps_as old new ledger stage l s ledger_is stage_is keeps;
  tells = tells;
}

-- the same by other names of the same files
pub since_as : {D : Type 0} (state : D → DiskState) (old new : D) (ledger stage l s : List ℕ) (known : Option End) → ledger ≡ l → stage ≡ s → IsSettledSince state old new ledger stage known → IsSettledSince state old new l s known
since_as state old new ledger stage l s known ledger_is stage_is since =
    subst (λ (x : List ℕ). IsSettledSince state old new x s known) ledger_is (subst (λ (x : List ℕ). IsSettledSince state old new ledger x known) stage_is since)

module _ {D : Type 0} (state : D → DiskState) (old settled : D) (ledger stage : List ℕ) where
  asking_behind : (before now : Option Folder) (spec : Spec) (moment : ℤ) (status : Status) → IsUnread before now spec status ⊎ IsUnsuited before now spec status → IsRefusedBehind state (state settled) ledger stage before now spec moment status
  asking_behind before now spec moment status (inl unread) = inl unread
  asking_behind before now spec moment status (inr unsuited) = inr (inl unsuited)

  pub refused_asking : (before now : Option Folder) (spec : Spec) (moment : ℤ) (status : Status) → IsSettledBy (state old) (state settled) ledger stage → IsUnread before now spec status ⊎ IsUnsuited before now spec status
      → IsCallRefused state old ledger stage before now spec moment status
  refused_asking before now spec moment status by why = inr (record { settled = settled; settles = by; refused = asking_behind before now spec moment status why })

  pub refused_settled : (before mid now : Option Folder) (spec : Spec) (moment : ℤ) (text : List ℕ) (q : Query) (result : Result Counts Status) → IsSettledBy (state old) (state settled) ledger stage → OnlyGrow before mid → HoldsQuery before mid spec.query text q
      → IfErr result (λ status. (since : Option Folder) → OnlyGrow since mid → HoldsQuery since mid spec.query text q → IsRefusedBehind state (state settled) ledger stage since now spec moment status)
      → IfErr result (IsCallRefused state old ledger stage before now spec moment)
  refused_settled before mid now spec moment text q (Ok counts) by grow holds refused = tt
  refused_settled before mid now spec moment text q (Err status) by grow holds refused = inr (record { settled = settled; settles = by; refused = refused before grow holds })

  -- and one that comes to counts
  pub whole_settled : (before mid now : Option Folder) (spec : Spec) (moment : ℤ) (text : List ℕ) (q : Query) (result : Result Counts Status) → IsSettledBy (state old) (state settled) ledger stage → OnlyGrow before mid → HoldsQuery before mid spec.query text q
      → IfOk result (λ counts. (since : Option Folder) → OnlyGrow since mid → HoldsQuery since mid spec.query text q → IsCounted state (state settled) ledger stage since now spec moment counts)
      → IfOk result (IsWhole state old ledger stage before now spec moment)
  whole_settled before mid now spec moment text q (Ok counts) by grow holds ran = record { settled = settled; settles = by; counted = ran before grow holds }
  whole_settled before mid now spec moment text q (Err status) by grow holds ran = tt
