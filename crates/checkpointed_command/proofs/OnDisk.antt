-- What a commit that settles its disk says of that disk.
use Rattle.std.proofs.Common.{◌≡◌, ℕ, ◌≤◌, Option, Some, None, Result, Err, IsErrOf, refl, sym, ◌∙◌, ap, subst}
use Rattle.std.specs.Prelude.{IfSome}
use Rattle.disk_model.specs.Disk.{DiskState, Files, IsImage}
use Rattle.commit.specs.Faults.{BreaksAt, FitsWhole, IsApart}
use Rattle.commit.specs.Keeping.{KeepsEntries}
use Rattle.commit.specs.Known.{IsReadSince}
use Rattle.commit.specs.Resume.{CanSettle, Settles}
use Rattle.commit.specs.Phases.{disk_of, ledger_of, stage_of}
use Rattle.commit.specs.declared.phases.Commit.{Commit}
use Rattle.commit.specs.declared.phases.CommitFiles.{CommitFiles}
use Rattle.commit.proofs.Known.{read_none}
use Rattle.ledger.proofs.Resting.{rests_none}
use Rattle.ledger.specs.declared.walking.End.{End}
use Rattle.ledger.specs.declared.refused.LedgerRefused.{LedgerRefused}
use Rattle.ledger.specs.declared.refused.LedgerRefused.TheVariants as C
use Rattle.ledger.specs.declared.refused.Part2.{Part2}
use Rattle.reports.specs.declared.status.Status.{Status}
use Rattle.checkpointed_run.specs.Reasons.{IsDamage}
use Rattle.checkpointed_run.proofs.Rested.{settles_read}
use Rattle.checkpointed_command.specs.Refusals.{IsSettledBy, IsSettledSince, IsUnsettled}
use Rattle.checkpointed_command.specs.Steps.{IsDamaged}
use Rattle.checkpointed_command.specs.Statuses.{unsettled}

module _ {D : Type 0} (state : D → DiskState) (disk : D) (files : CommitFiles) (commit : Commit D) (same : commit.disk.now ≡ disk) (files_are : commit.files ≡ files) where
  pub fits_of : ((disk_of state commit).tells → IsApart (ledger_of commit) (stage_of commit) (disk_of state commit).seen → FitsWhole (ledger_of commit) (stage_of commit) (disk_of state commit).seen)
      → (state disk).tells → IsApart files.ledger files.stage (state disk).seen → FitsWhole files.ledger files.stage (state disk).seen
  fits_of fits = subst (λ (d : D). (state d).tells → IsApart files.ledger files.stage (state d).seen → FitsWhole files.ledger files.stage (state d).seen) same
      (subst (λ (f : CommitFiles). (disk_of state commit).tells → IsApart f.ledger f.stage (disk_of state commit).seen → FitsWhole f.ledger f.stage (disk_of state commit).seen) files_are fits)

  -- the disk that it leaves is another
  pub keeps_of : (x y : D) → x ≡ y → ((disk_of state commit).tells → IsApart (ledger_of commit) (stage_of commit) (disk_of state commit).seen → KeepsEntries (ledger_of commit) (disk_of state commit).seen (state y).seen)
      → (state disk).tells → IsApart files.ledger files.stage (state disk).seen → KeepsEntries files.ledger (state disk).seen (state x).seen
  keeps_of x y is keeps = subst (λ (d : D). (state d).tells → IsApart files.ledger files.stage (state d).seen → KeepsEntries files.ledger (state d).seen (state x).seen) same
      (subst (λ (f : CommitFiles). (disk_of state commit).tells → IsApart f.ledger f.stage (disk_of state commit).seen → KeepsEntries f.ledger (disk_of state commit).seen (state x).seen) files_are
      (subst (λ (d : D). (disk_of state commit).tells → IsApart (ledger_of commit) (stage_of commit) (disk_of state commit).seen → KeepsEntries (ledger_of commit) (disk_of state commit).seen (state d).seen) (sym is) keeps))

  -- it was settled at most
  pub near_of : (x y : D) → x ≡ y → (CanSettle (disk_of state commit) (ledger_of commit) (stage_of commit) → Settles (disk_of state commit) (state y) (ledger_of commit) (stage_of commit))
      → CanSettle (state disk) files.ledger files.stage → Settles (state disk) (state x) files.ledger files.stage
  near_of x y is near = subst (λ (d : D). CanSettle (state d) files.ledger files.stage → Settles (state d) (state x) files.ledger files.stage) same
      (subst (λ (f : CommitFiles). CanSettle (disk_of state commit) f.ledger f.stage → Settles (disk_of state commit) (state x) f.ledger f.stage) files_are
      (subst (λ (d : D). CanSettle (disk_of state commit) (ledger_of commit) (stage_of commit) → Settles (disk_of state commit) (state d) (ledger_of commit) (stage_of commit)) (sym is) near))

  -- and where an end was found, it was only read
  pub found_of : (x y : D) (found : Option End) → x ≡ y → IfSome found (λ end. IsReadSince (disk_of state commit) (state y) (ledger_of commit) (Some end)) → IfSome found (λ end. IsReadSince (state disk) (state x) files.ledger (Some end))
  found_of x y None is read = tt
  found_of x y (Some end) is read = subst (λ (d : D). IsReadSince (state d) (state x) files.ledger (Some end)) same
      (subst (λ (f : CommitFiles). IsReadSince (disk_of state commit) (state x) f.ledger (Some end)) files_are
      (subst (λ (d : D). IsReadSince (disk_of state commit) (state d) (ledger_of commit) (Some end)) (sym is) read))

  -- a disk that can be settled is told no damage
  pub undamaged_of : (fault : LedgerRefused) (status : Status) → status ≡ unsettled fault → ((part : Part2) (p : ℕ) → fault ≡ C.LedgerFault part p → CanSettle (disk_of state commit) (ledger_of commit) (stage_of commit) → ⊥)
      → IsDamaged status → CanSettle (state disk) files.ledger files.stage → ⊥
  undamaged_of fault status status_is none damaged can = none_of fault (subst IsDamaged status_is damaged) none
      (subst (λ (f : CommitFiles). CanSettle (disk_of state commit) f.ledger f.stage) (sym files_are) (subst (λ (d : D). CanSettle (state d) files.ledger files.stage) (sym same) can))
    where
      none_of : (fault : LedgerRefused) → IsDamaged (unsettled fault) → ((part : Part2) (p : ℕ) → fault ≡ C.LedgerFault part p → CanSettle (disk_of state commit) (ledger_of commit) (stage_of commit) → ⊥) → CanSettle (disk_of state commit) (ledger_of commit) (stage_of commit) → ⊥
      none_of C.DiskFault damaged none can = damaged
      none_of (C.LedgerFault part at) damaged none can = none part at refl can

  pub tells_of : (x y : D) → x ≡ y → ((disk_of state commit).tells → (state y).tells) → (state disk).tells → (state x).tells
  tells_of x y is tells = subst (λ (d : D). (state d).tells → (state x).tells) same (subst (λ (d : D). (disk_of state commit).tells → (state d).tells) (sym is) tells)

module _ {D : Type 0} (state : D → DiskState) (disk : D) (files : CommitFiles) (commit : Commit D) where
  damage_of : (fault : LedgerRefused) → ((part : Part2) (p : ℕ) → fault ≡ C.LedgerFault part p → (disk_of state commit).tells → IsApart (ledger_of commit) (stage_of commit) (disk_of state commit).seen → BreaksAt (ledger_of commit) (stage_of commit) (disk_of state commit).seen part p)
      → IsDamage (disk_of state commit) (ledger_of commit) (stage_of commit) fault
  damage_of C.DiskFault breaks = tt
  damage_of (C.LedgerFault part at) breaks = λ tells apart. breaks part at refl tells apart

  pub unsettled_by : {T : Type 0} (result : Result T LedgerRefused) (fault : LedgerRefused) (status : Status) → result ≡ Err fault → commit.disk.now ≡ disk → commit.files ≡ files → status ≡ unsettled fault
      → ((part : Part2) (p : ℕ) → IsErrOf result (C.LedgerFault part p) → (disk_of state commit).tells → IsApart (ledger_of commit) (stage_of commit) (disk_of state commit).seen → BreaksAt (ledger_of commit) (stage_of commit) (disk_of state commit).seen part p)
      → IsUnsettled (state disk) files.ledger files.stage status
  unsettled_by result fault status is same files_are status_is breaks = record {
    fault = fault;
    damage = subst (λ (d : D). IsDamage (state d) files.ledger files.stage fault) same
        (subst (λ (f : CommitFiles). IsDamage (disk_of state commit) f.ledger f.stage fault) files_are (damage_of fault (λ part p e. breaks part p (is ∙ ap Err e))));
    status_is = status_is;
  }

-- a disk that was settled is one that was settled and only read since, which is the one before where an end was found
module _ {D : Type 0} (state : D → DiskState)
    (only_now : (disk : D) (image : Files) → (state disk).honest → (state disk).left_since (state disk).moment image → IsImage (state disk) image)
    (counts_now : (disk : D) (t : ℕ) (image : Files) → (state disk).honest → t ≤ (state disk).moment → IsImage (state disk) image → (state disk).left_since t image)
    (files : CommitFiles) (old new : D) where
  pub settled_since : (found : Option End) → IsSettledBy (state old) (state new) files.ledger files.stage → IfSome found (λ end. IsReadSince (state old) (state new) files.ledger (Some end)) → IsSettledSince state old new files.ledger files.stage found
  settled_since None by read = record { settled = new; by = by; since = read_none (state new) files.ledger }
  settled_since (Some end) by read = record {
    settled = old;
    by = record {
      settles = settles_read state only_now counts_now files old old (rests_none (state old));
      fits = by.fits;
      keeps = λ tells apart.
          let shown = read.rests.shows tells in
          let same : (state new).seen ≡ (state old).seen = λ i name. shown.seen name i in
          subst (λ (seen : Files). KeepsEntries files.ledger (state old).seen seen) same (by.keeps tells apart);
      tells = λ tells. tells;
    };
    since = read;
  }
