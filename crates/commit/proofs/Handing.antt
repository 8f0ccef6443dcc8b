-- From the commit that holds a disk to the disk.
use Rattle.std.proofs.Common.{◌≡◌, ◌⊎◌, List, ℕ, sym, ◌∙◌, ap, subst}
use Rattle.disk_model.specs.Disk.{Files, DiskState, LeavesOnly}
use Rattle.lp_model.specs.Outside.{Rose}
use Rattle.ledger_model.specs.Entries.{Entry}
use Rattle.commit.specs.States.{Keeps, ShowsFiles, LiesIn}
use Rattle.commit.specs.Resume.{CanSettle}
use Rattle.commit.specs.Faults.{IsApart, FitsWhole, BreaksSomewhere}
use Rattle.commit.specs.declared.phases.CommitFiles.{CommitFiles}
use Rattle.commit.specs.declared.phases.Commit.{Commit}
use Rattle.commit.specs.Phases.{disk_of, ledger_of, stage_of}
use Rattle.commit.specs.Whole.{MayCommit, BeforeOrWith}

module _ {D : Type 0} (state : D → DiskState) (a : Commit D) (disk : D) (files : CommitFiles) (disk_is : a.disk.now ≡ disk) (files_are : a.files ≡ files) where
  pub may_from : (entries : List Entry) (entry : Entry) (first one second two : List ℕ) (before after : Files) → MayCommit (state disk) files.ledger files.stage entries entry first one second two before after
      → MayCommit (disk_of state a) (ledger_of a) (stage_of a) entries entry first one second two before after
  may_from entries entry first one second two before after may =
      subst (λ (d : D). MayCommit (state d) (ledger_of a) (stage_of a) entries entry first one second two before after) (sym disk_is)
      (subst (λ (f : CommitFiles). MayCommit (state disk) f.ledger f.stage entries entry first one second two before after) (sym files_are) may)

  pub each_at : (x y : D) (entries : List Entry) (entry : Entry) (after : Files) → x ≡ y → LeavesOnly (disk_of state a) (state y) (BeforeOrWith (disk_of state a) (ledger_of a) (stage_of a) entries entry after)
      → LeavesOnly (state disk) (state x) (BeforeOrWith (state disk) files.ledger files.stage entries entry after)
  each_at x y entries entry after is l =
      subst (λ (d : D). LeavesOnly (state d) (state x) (BeforeOrWith (state d) files.ledger files.stage entries entry after)) disk_is
      (subst (λ (f : CommitFiles). LeavesOnly (disk_of state a) (state x) (BeforeOrWith (disk_of state a) f.ledger f.stage entries entry after)) files_are
      (subst (λ (d : D). LeavesOnly (disk_of state a) (state d) (BeforeOrWith (disk_of state a) (ledger_of a) (stage_of a) entries entry after)) (sym is) l))

  pub again_at : (x y : D) → x ≡ y → CanSettle (state y) (ledger_of a) (stage_of a) → CanSettle (state x) files.ledger files.stage
  again_at x y is can = subst (λ (f : CommitFiles). CanSettle (state x) f.ledger f.stage) files_are (subst (λ (d : D). CanSettle (state d) (ledger_of a) (stage_of a)) (sym is) can)

  pub kept_at : (x y : D) (entries : List Entry) (after : Files) → x ≡ y → Keeps (state y) (ledger_of a) (stage_of a) entries after → Keeps (state x) files.ledger files.stage entries after
  kept_at x y entries after is keeps = subst (λ (f : CommitFiles). Keeps (state x) f.ledger f.stage entries after) files_are (subst (λ (d : D). Keeps (state d) (ledger_of a) (stage_of a) entries after) (sym is) keeps)

  pub shown_at : (x y : D) (after : Files) → x ≡ y → ShowsFiles (state y) (ledger_of a) (stage_of a) after → ShowsFiles (state x) files.ledger files.stage after
  shown_at x y after is shows = subst (λ (f : CommitFiles). ShowsFiles (state x) f.ledger f.stage after) files_are (subst (λ (d : D). ShowsFiles (state d) (ledger_of a) (stage_of a) after) (sym is) shows)

  pub rose_at : (faults : D → ℕ) (x y : D) → x ≡ y → Rose (faults a.disk.now) (faults y) → Rose (faults disk) (faults x)
  rose_at faults x y is rose = subst (λ (d : D). Rose (faults d) (faults x)) disk_is (subst (λ (d : D). Rose (faults a.disk.now) (faults d)) (sym is) rose)

  pub same_at : (faults : D → ℕ) (x y : D) → x ≡ y → faults y ≡ faults a.disk.now → faults x ≡ faults disk
  same_at faults x y is same = ap faults is ∙ same ∙ ap faults disk_is

  pub fits_at : (Gone : Type 0) → (Gone → (disk_of state a).tells → IsApart (ledger_of a) (stage_of a) (disk_of state a).seen → FitsWhole (ledger_of a) (stage_of a) (disk_of state a).seen)
      → Gone → (state disk).tells → IsApart files.ledger files.stage (state disk).seen → FitsWhole files.ledger files.stage (state disk).seen
  fits_at Gone fits = subst (λ (d : D). Gone → (state d).tells → IsApart files.ledger files.stage (state d).seen → FitsWhole files.ledger files.stage (state d).seen) disk_is
      (subst (λ (f : CommitFiles). Gone → (disk_of state a).tells → IsApart f.ledger f.stage (disk_of state a).seen → FitsWhole f.ledger f.stage (disk_of state a).seen) files_are fits)

  pub breaks_at : (faults : D → ℕ) (x y : D) → x ≡ y
      → ((disk_of state a).tells → IsApart (ledger_of a) (stage_of a) (disk_of state a).seen → Rose (faults a.disk.now) (faults y) ⊎ BreaksSomewhere (ledger_of a) (stage_of a) (disk_of state a).seen)
      → (state disk).tells → IsApart files.ledger files.stage (state disk).seen → Rose (faults disk) (faults x) ⊎ BreaksSomewhere files.ledger files.stage (state disk).seen
  breaks_at faults x y is breaks = subst (λ (d : D). (state d).tells → IsApart files.ledger files.stage (state d).seen → Rose (faults d) (faults x) ⊎ BreaksSomewhere files.ledger files.stage (state d).seen) disk_is
      (subst (λ (f : CommitFiles). (disk_of state a).tells → IsApart f.ledger f.stage (disk_of state a).seen → Rose (faults a.disk.now) (faults x) ⊎ BreaksSomewhere f.ledger f.stage (disk_of state a).seen) files_are
      (subst (λ (d : D). (disk_of state a).tells → IsApart (ledger_of a) (stage_of a) (disk_of state a).seen → Rose (faults a.disk.now) (faults d) ⊎ BreaksSomewhere (ledger_of a) (stage_of a) (disk_of state a).seen) (sym is) breaks))

  pub lies_at : (x y : D) (entries : List Entry) (entry : Entry) → x ≡ y → LiesIn (state y) (ledger_of a) entries entry → LiesIn (state x) files.ledger entries entry
  lies_at x y entries entry is lies = subst (λ (f : CommitFiles). LiesIn (state x) f.ledger entries entry) files_are (subst (λ (d : D). LiesIn (state d) (ledger_of a) entries entry) (sym is) lies)
