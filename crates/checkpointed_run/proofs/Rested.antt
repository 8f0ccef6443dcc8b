-- Settling and reads in front of a run leave what its disk stands for: what holds of the run from then on holds from before them.
use Rattle.std.proofs.Common.{◌≡◌, ⊎_elim, ℕ, ◌≤◌, List, Option, inl, inr, sym, subst, arith}
use Rattle.ledger.specs.declared.walking.End.{End}
use Rattle.commit.specs.Known.{IsReadSince}
use Rattle.disk_model.specs.Disk.{DiskState, Files, IsImage, Nothing, Works}
use Rattle.ledger_model.specs.Entries.{Entry}
use Rattle.ledger.specs.Reader.{Rests}
use Rattle.recovery_model.specs.Recovered.{Recovers, RecoversAsBefore}
use Rattle.recovery_model.proofs.OneState.{one_state, alike}
use Rattle.commit.specs.Resume.{CanSettle, Settles}
use Rattle.commit.specs.declared.phases.Commit.{Commit}
use Rattle.commit.specs.declared.phases.CommitFiles.{CommitFiles}
use Rattle.commit.specs.Phases.{disk_of, ledger_of, stage_of, Same, Unsettled, SettlesHeld}
use Rattle.commit.specs.States.{ShowsFiles}
use Rattle.commit.proofs.Composing.{same_on}
use Rattle.lp_model.specs.Outside.{Folder, OnlyGrow}
use Rattle.lp_model.proofs.Growing.{OnlyGrow-refl}
use Rattle.log_reading.specs.declared.span.Span.{Span}
use Rattle.query_run.specs.declared.executing.Counts.{Counts}
use Rattle.tpl_output.specs.Sections.{Sections}
use Rattle.run_entry.proofs.Keeping.{give_wider}
use Rattle.run_entry.specs.Entries.{Request}
use Rattle.checkpointed_run.specs.Committed.{ComesToGate, IsCommitted, StopsAtGate}
use Rattle.checkpointed_run.specs.Phases.{IsSettledFrom, as_of}
use Rattle.checkpointed_run.specs.Staged.{HasStagedRun}
use Rattle.checkpointed_run.specs.declared.running.RunStop.{RunStop}

-- the images are the same
image_before : (a b : DiskState) (image : Files) → Works Nothing a b → IsImage b image → IsImage a image
image_before a b image works is name = let l = works.leaves name (image name) (is name) in subst (a.may_leave name) (sym l.2) l.1

-- what is read is the same
seen_same : (a b : DiskState) → Works Nothing a b → b.seen ≡ a.seen
seen_same a b works = λ i name. works.seen name i

-- what a read gives stands for the same
recovers_on : (a b : DiskState) (ledger stage : List ℕ) (entries : List Entry) (files : Files) → Works Nothing a b → Recovers ledger stage entries files a.seen → Recovers ledger stage entries files b.seen
recovers_on a b ledger stage entries files works r = subst (Recovers ledger stage entries files) (sym (seen_same a b works)) r

module _ (a b : DiskState) (ledger stage : List ℕ)
    (only_now : (image : Files) → a.honest → a.left_since a.moment image → IsImage a image) (can : CanSettle a ledger stage) (works : Works Nothing a b) where
  as_before : (image : Files) → IsImage a image → RecoversAsBefore a ledger stage image
  as_before image is = let r = can.images.each image is in (r.0, r.1, image, is, r.2, r.2)

  of_changed : (image : Files) → ((name : List ℕ) → (d : List ℕ) × a.may_leave name d × Nothing name d (image name)) → RecoversAsBefore a ledger stage image
  of_changed image each = as_before image (λ name. let d = each name in subst (a.may_leave name) (sym d.2) d.1)

  -- reads alone settle nothing, and spoil nothing
  pub rested : Settles a b ledger stage
  rested = record {
    each_moment = record {
      later = works.later;
      each = λ image left. ⊎_elim (λ early. as_before image (only_now image can.honest early)) (λ each. of_changed image each) (works.meanwhile a.moment image (omega arith) left);
      before = λ t image le left. ⊎_elim (λ early. inl early) (λ each. inr (of_changed image each)) (works.meanwhile t image le left);
    };
    seen = λ entries files r. recovers_on a b ledger stage entries files works r;
    again = record {
      honest = works.honest;
      differ = can.differ;
      images = record {
        each = λ image is. can.images.each image (image_before a b image works is);
        agree = λ one two entries files others first second r s. can.images.agree one two entries files others (image_before a b one works first) (image_before a b two works second) r s;
      };
    };
  }

module _ (a b c : DiskState) (ledger stage : List ℕ)
    (counts_now : (t : ℕ) (image : Files) → b.honest → t ≤ b.moment → IsImage b image → b.left_since t image) (first : Settles a b ledger stage) (second : Settles b c ledger stage) where
  -- what an image of the disk in between stood for an image stood for before
  on_before : (image : Files) → RecoversAsBefore b ledger stage image → RecoversAsBefore a ledger stage image
  on_before image r =
      let entries = r.0 in
      let files = r.1 in
      let middle = r.2 in
      let was = first.each_moment.each middle (counts_now a.moment middle first.again.honest first.each_moment.later r.3) in
      let one = one_state ledger stage entries was.0 files was.1 middle r.4 was.5 in
      (was.0, was.1, was.2, was.3, was.4, alike ledger stage entries was.0 files was.1 image one.0 one.1 r.5)

  pub settles_then : Settles a c ledger stage
  settles_then = record {
    each_moment = record {
      later = omega (arith, first.each_moment.later, second.each_moment.later);
      each = λ image left. ⊎_elim (λ early. first.each_moment.each image early) (λ r. on_before image r) (second.each_moment.before a.moment image first.each_moment.later left);
      before = λ t image le left.
          let late : t ≤ b.moment = omega (arith, le, first.each_moment.later) in
          ⊎_elim (λ early. first.each_moment.before t image le early) (λ r. inr (on_before image r)) (second.each_moment.before t image late left);
    };
    seen = λ entries files r. second.seen entries files (first.seen entries files r);
    again = second.again;
  }

-- a commit holds the same reference and the same files as it did
pub same_of : {D : Type 0} (earlier : D) (c new : Commit D) → Same c new → Same (as_of earlier c) new
same_of earlier c new same = record { same_reference = same.same_reference; files = same.files }

-- what is known of the disk of a commit is what was known of that disk
pub held_since : {D : Type 0} (state : D → DiskState) (earlier disk : D) (files : CommitFiles) (known : Option End) (commit : Commit D) → commit.disk.now ≡ disk → commit.files ≡ files → IsReadSince (state earlier) (state disk) files.ledger known
    → IsReadSince (state earlier) (disk_of state commit) (ledger_of commit) known
held_since {D = D} state earlier disk files known commit disk_is files_are since =
    subst (λ (f : CommitFiles). IsReadSince (state earlier) (disk_of state commit) f.ledger known) (sym files_are) (subst (λ (d : D). IsReadSince (state earlier) (state d) files.ledger known) (sym disk_is) since)

-- what was settled and then only read is settled
module _ {D : Type 0} (state : D → DiskState)
    (only_now : (disk : D) (image : Files) → (state disk).honest → (state disk).left_since (state disk).moment image → IsImage (state disk) image)
    (counts_now : (disk : D) (t : ℕ) (image : Files) → (state disk).honest → t ≤ (state disk).moment → IsImage (state disk) image → (state disk).left_since t image)
    (ledger stage : List ℕ) (first old now : D) where
  pub settles_rested : Settles (state first) (state old) ledger stage → Rests (state old) (state now) → Settles (state first) (state now) ledger stage
  settles_rested settles rests = settles_then (state first) (state old) (state now) ledger stage (λ t image honest le is. counts_now old t image honest le is) settles
      (rested (state old) (state now) ledger stage (λ image honest left. only_now old image honest left) settles.again (rests.crash settles.again.honest))

-- a disk that is read, and then settled
module _ {D : Type 0} (state : D → DiskState)
    (only_now : (disk : D) (image : Files) → (state disk).honest → (state disk).left_since (state disk).moment image → IsImage (state disk) image)
    (counts_now : (disk : D) (t : ℕ) (image : Files) → (state disk).honest → t ≤ (state disk).moment → IsImage (state disk) image → (state disk).left_since t image)
    (files : CommitFiles) (old mid : D) (rests : Rests (state old) (state mid)) where
  -- reads alone settle it at most
  pub settles_read : CanSettle (state old) files.ledger files.stage → Settles (state old) (state mid) files.ledger files.stage
  settles_read can = rested (state old) (state mid) files.ledger files.stage (λ image honest left. only_now old image honest left) can (rests.crash can.honest)

  -- and so does a commit behind them that settles it at most
  pub settles_held : (new : D) (first last : Commit D) → first.files ≡ files → first.disk.now ≡ mid → new ≡ last.disk.now → (Unsettled state first → SettlesHeld state first last) → CanSettle (state old) files.ledger files.stage → Settles (state old) (state new) files.ledger files.stage
  settles_held new first last files_are mid_is new_is settles can =
      let read = settles_read can in
      let held : Unsettled state first = subst (λ (f : CommitFiles). CanSettle (disk_of state first) f.ledger f.stage) (sym files_are) (subst (λ (d : D). CanSettle (state d) files.ledger files.stage) (sym mid_is) read.again) in
      let of_files : Settles (disk_of state first) (disk_of state last) files.ledger files.stage = subst (λ (f : CommitFiles). Settles (disk_of state first) (disk_of state last) f.ledger f.stage) files_are (settles held) in
      let of_old : Settles (state mid) (disk_of state last) files.ledger files.stage = subst (λ (d : D). Settles (state d) (disk_of state last) files.ledger files.stage) mid_is of_files in
      let of_new : Settles (state mid) (state new) files.ledger files.stage = subst (λ (d : D). Settles (state mid) (state d) files.ledger files.stage) (sym new_is) of_old in
      settles_then (state old) (state mid) (state new) files.ledger files.stage (λ t image honest le is. counts_now mid t image honest le is) read of_new

-- what holds of a run from a disk on holds from one on that was settled since
module _ {D : Type 0} (state : D → DiskState)
    (counts_now : (disk : D) (t : ℕ) (image : Files) → (state disk).honest → t ≤ (state disk).moment → IsImage (state disk) image → (state disk).left_since t image)
    (first old : Commit D) (same : Same first old) (near : Unsettled state first → SettlesHeld state first old) where
  -- the later disk can be settled too
  pub still_unsettled : Unsettled state first → Unsettled state old
  still_unsettled can = subst (λ (f : CommitFiles). CanSettle (disk_of state old) f.ledger f.stage) (sym same.files) (near can).again

  -- some of a run
  pub settles_behind : (new : Commit D) → (Unsettled state old → SettlesHeld state old new) → Unsettled state first → SettlesHeld state first new
  settles_behind new settles can = settles_then (disk_of state first) (disk_of state old) (disk_of state new) (ledger_of first) (stage_of first) (λ t image honest le is. counts_now old.disk.now t image honest le is) (near can)
      (subst (λ (f : CommitFiles). Settles (disk_of state old) (disk_of state new) f.ledger f.stage) same.files (settles (still_unsettled can)))

  -- and then a disk that is settled
  pub settled_behind : (new : Commit D) → IsSettledFrom state old new → IsSettledFrom state first new
  settled_behind new is = record {
    same = same_on first old new same is.same;
    any_moment = settles_behind new is.any_moment;
    settled = λ can entries files r.
        let found = is.settled (still_unsettled can) entries files (subst (λ (f : CommitFiles). Recovers f.ledger f.stage entries files (disk_of state old).seen) (sym same.files) ((near can).seen entries files r)) in
        (found.0, subst (λ (f : CommitFiles). ShowsFiles (disk_of state new) f.ledger f.stage files) same.files found.1);
  }

  -- what subqueries gave from a moment on they gave from an earlier one on
  stages_wider : (request : Request) (template : Sections) (early began told : Option Folder) (spans : List Span) (settled staged : Commit D) (entry : Entry) (counts : Counts) → OnlyGrow early began
      → HasStagedRun state request template began told spans settled staged entry counts → HasStagedRun state request template early told spans settled staged entry counts
  stages_wider request template early began told spans settled staged entry counts front stages = record {
    started = stages.started;
    starts = stages.starts;
    empty = stages.empty;
    givens = stages.givens;
    lists = stages.lists;
    give = give_wider request.spec request.moment request.q stages.givens stages.lists early began told told front (OnlyGrow-refl told) stages.give;
    run = stages.run;
  }

  -- a run that came to its gate
  pub comes_behind : (request : Request) (template : Sections) (early began told : Option Folder) (spans : List Span) (gate : Commit D) (entry : Entry) (counts : Counts) → OnlyGrow early began
      → ComesToGate state request template began told spans old gate entry counts → ComesToGate state request template early told spans first gate entry counts
  comes_behind request template early began told spans gate entry counts front comes = record {
    settled = comes.settled;
    settles = settled_behind comes.settled comes.settles;
    staged = comes.staged;
    stages = stages_wider request template early began told spans comes.settled comes.staged entry counts front comes.stages;
    seals = comes.seals;
  }

  -- was whole
  abbrev pub committed_behind : (request : Request) (template : Sections) (early began told : Option Folder) (spans : List Span) (new : Commit D) (counts : Counts) → OnlyGrow early began
      → IsCommitted state request template began told spans old new counts → IsCommitted state request template early told spans first new counts
  committed_behind request template early began told spans new counts front is = record {
    entry = is.entry;
    gate = is.gate;
    comes = comes_behind request template early began told spans is.gate is.entry counts front is.comes;
    opens = is.opens;
    done = is.done;
    finished = is.finished;
  }

  -- or was stopped there
  abbrev pub stopped_behind : (request : Request) (template : Sections) (early began told : Option Folder) (spans : List Span) (new : Commit D) (stop : RunStop) → OnlyGrow early began
      → StopsAtGate state request template began told spans old new stop → StopsAtGate state request template early told spans first new stop
  stopped_behind request template early began told spans new stop front is = record {
    entry = is.entry;
    counts = is.counts;
    gate = is.gate;
    comes = comes_behind request template early began told spans is.gate is.entry is.counts front is.comes;
    opens = is.opens;
    undamaged = is.undamaged;
    damage = is.damage;
  }
