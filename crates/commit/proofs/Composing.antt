-- The phases of a commit, one after the other.
use Rattle.std.proofs.Common.{◌≡◌, inl, inr, ⊎_elim, ℕ, List, [], ◌∷◌, ◌++◌, sym, ◌∙◌, subst, arith, append_assoc}
use Rattle.disk_model.specs.Disk.{Files, DiskState, IsImage, LeavesOnly}
use Rattle.disk_model.proofs.DiskSteps.{LeavesOnly-then}
use Rattle.ledger_model.specs.Entries.{Entry}
use Rattle.ledger_model.specs.Ledgers.{body_of, front_of}
use Rattle.recovery_model.specs.Recovered.{Recovers, RecoversEither, RecoversAsBefore}
use Rattle.commit.specs.States.{IsSettled, IsSealed, IsGood, Keeps, Preserves, KeepsEither, ShowsFiles, LiesIn}
use Rattle.commit.specs.Resume.{CanSettle}
use Rattle.commit.specs.declared.phases.CommitFiles.{CommitFiles}
use Rattle.commit.proofs.SealedEntries.{resting_start, resting_stage, resting_means, settled_stage}
use Rattle.commit.proofs.DoneBytes.{preserves_from}
use Rattle.recovery_model.proofs.OneState.{one_state, alike}
use Rattle.commit.proofs.OneState.{recoverable_kept, recoverable_either}
use Rattle.commit.proofs.Resuming.{settled_shows}
use Rattle.commit.specs.declared.phases.Commit.{Commit}
use Rattle.commit.specs.Phases.{disk_of, ledger_of, stage_of, Same, Goes, Settled, Unsettled, PreservesHeld, SettlesHeld, LeavesEither, IsStep, AreSteps, last_of}
use Rattle.commit.specs.Whole.{BeforeOrWith}

leaves_weaker : (a b : DiskState) (P Q : Files → Type 0) → ((image : Files) → P image → Q image) → LeavesOnly a b P → LeavesOnly a b Q
leaves_weaker a b P Q weaker l = record {
  later = l.later;
  each = λ image left. weaker image (l.each image left);
  before = λ t image le left. ⊎_elim (λ early. inl early) (λ p. inr (weaker image p)) (l.before t image le left);
}

pub same_on : {D : Type 0} → (a b c : Commit D) → Same a b → Same b c → Same a c
same_on a b c f s = record { same_reference = s.same_reference ∙ f.same_reference; files = s.files ∙ f.files }

-- an entry that may be written to one may be written to the other
pub good_on : {D : Type 0} → (a b : Commit D) (entry : Entry) → Same a b → IsGood (ledger_of a) (stage_of a) entry → IsGood (ledger_of b) (stage_of b) entry
good_on a b entry same good = subst (λ (n : CommitFiles). IsGood n.ledger n.stage entry) (sym same.files) good

-- and one that lies in the ledger of one lies in that of the other
pub lies_on : {D : Type 0} → (disk : DiskState) (a b : Commit D) (entries : List Entry) (entry : Entry) → Same a b → LiesIn disk (ledger_of b) entries entry → LiesIn disk (ledger_of a) entries entry
lies_on disk a b entries entry same lies = subst (λ (n : CommitFiles). LiesIn disk n.ledger entries entry) same.files lies

-- an entry behind a closed gate is none
pub settled_of : (disk : DiskState) (ledger stage : List ℕ) (place : ℕ) (entry : Entry) (entries : List Entry) (before after : Files) → IsSealed disk ledger stage place entry entries before after → IsSettled disk ledger stage place entries before
settled_of disk ledger stage place entry entries before after is = record {
  honest = is.honest;
  differ = is.differ;
  pairs = is.pairs;
  fit = is.fit;
  finished = is.finished;
  rest = is.gate ∷ 0 ∷ (body_of entry ++ 0 ∷ 0 ∷ is.more);
  split = is.ledger_is ∙ append_assoc (front_of is.pairs) (is.gate ∷ 0 ∷ body_of entry) (0 ∷ 0 ∷ is.more);
  closed = (is.shut, omega arith);
  ledger_synced = is.ledger_synced;
  place_is = is.place_is;
  entries_are = is.entries_are;
  files_are = is.files_are;
}

-- what one image stands for another one stands for, if they share a state
one_of : (ledger stage : List ℕ) (entries js : List Entry) (files others first image : Files) → Recovers ledger stage entries files first → Recovers ledger stage js others first → Recovers ledger stage entries files image → Recovers ledger stage js others image
one_of ledger stage entries js files others first image is other now = let one = one_state ledger stage entries js files others first is other in alike ledger stage entries js files others image one.0 one.1 now

module _ {D : Type 0} (state : D → DiskState)
    (only_now : (disk : D) (image : Files) → (state disk).honest → (state disk).left_since (state disk).moment image → IsImage (state disk) image)
    (seen_left : (disk : D) → (state disk).honest → IsImage (state disk) (state disk).seen) where
  -- what goes over a settled disk leaves it settled, and each moment stands for the state
  pub goes_keeps : (a b : Commit D) (entries : List Entry) (files : Files) → Goes state a b → Settled state a entries files → PreservesHeld state a b entries files × Settled state b entries files
  goes_keeps a b entries files goes is =
      let old = disk_of state a in
      let work = goes.works is.honest in
      let first = resting_start old (ledger_of a) (stage_of a) a.place entries files is (λ image left. only_now a.disk.now image is.honest left) (seen_left a.disk.now is.honest) in
      let second = resting_stage old (ledger_of a) (stage_of a) a.place entries files is old (disk_of state b) _ first work in
      let settled : IsSettled (disk_of state b) (ledger_of a) (stage_of a) a.place entries files = settled_stage old (ledger_of a) (stage_of a) a.place entries files is (disk_of state b) _ work in (
        preserves_from old (disk_of state b) (ledger_of a) (stage_of a) entries files _ (resting_means old (ledger_of a) (stage_of a) a.place entries files is) second,
        subst (λ (f : CommitFiles). IsSettled (disk_of state b) f.ledger f.stage b.place entries files) (sym goes.same.files)
            (subst (λ (p : ℕ). IsSettled (disk_of state b) (ledger_of a) (stage_of a) p entries files) (sym goes.place) settled),
      )

  pub preserves_on : (a b c : Commit D) (entries : List Entry) (files : Files) → Same a b → PreservesHeld state a b entries files → PreservesHeld state b c entries files → PreservesHeld state a c entries files
  preserves_on a b c entries files same f s =
      let moved : Preserves (disk_of state b) (disk_of state c) (ledger_of a) (stage_of a) entries files = subst (λ (n : CommitFiles). Preserves (disk_of state b) (disk_of state c) n.ledger n.stage entries files) same.files s in
      let P = Recovers (ledger_of a) (stage_of a) entries files in
      record {
        each_moment = LeavesOnly-then (disk_of state a) (disk_of state b) (disk_of state c) P P P (λ image r. r) (λ image r. r) f.each_moment moved.each_moment;
        now = moved.now;
      }

  pub either_on : (a b c : Commit D) (entries : List Entry) (entry : Entry) (before after : Files) → Same a b → LeavesEither state a b entries entry before after → PreservesHeld state b c (entries ++ entry ∷ []) after
      → LeavesEither state a c entries entry before after
  either_on a b c entries entry before after same f s =
      let moved : Preserves (disk_of state b) (disk_of state c) (ledger_of a) (stage_of a) (entries ++ entry ∷ []) after =
      subst (λ (n : CommitFiles). Preserves (disk_of state b) (disk_of state c) n.ledger n.stage (entries ++ entry ∷ []) after) same.files s in
      let Either = RecoversEither (ledger_of a) (stage_of a) entries entry before after in
      let With = Recovers (ledger_of a) (stage_of a) (entries ++ entry ∷ []) after in
      record {
        each_moment = LeavesOnly-then (disk_of state a) (disk_of state b) (disk_of state c) Either With Either (λ image r. r) (λ image r. inr r) f.each_moment moved.each_moment;
        now = record { honest = moved.now.honest; images = λ image is. inr (moved.now.images image is); seen = inr moved.now.seen };
      }

  pub settles_on : (a b c : Commit D) → Same a b → Unsettled state a → SettlesHeld state a b
      → ((entries : List Entry) (files : Files) → Recovers (ledger_of a) (stage_of a) entries files ((disk_of state a).seen) → PreservesHeld state b c entries files) → SettlesHeld state a c
  settles_on a b c same can f s =
      let found = can.images.each ((disk_of state a).seen) (seen_left a.disk.now can.honest) in
      let moved = λ (entries : List Entry) (files : Files) (r : Recovers (ledger_of a) (stage_of a) entries files ((disk_of state a).seen)).
      subst (λ (n : CommitFiles). Preserves (disk_of state b) (disk_of state c) n.ledger n.stage entries files) same.files (s entries files r) in
      let kept = moved found.0 found.1 found.2 in
      let P = RecoversAsBefore (disk_of state a) (ledger_of a) (stage_of a) in
      record {
        each_moment = LeavesOnly-then (disk_of state a) (disk_of state b) (disk_of state c) P (Recovers (ledger_of a) (stage_of a) found.0 found.1) P (λ image r. r)
            (λ image r. (found.0, found.1, (disk_of state a).seen, seen_left a.disk.now can.honest, found.2, r)) f.each_moment kept.each_moment;
        seen = λ entries files r. (moved entries files r).now.seen;
        again = record { honest = kept.now.honest; differ = can.differ; images = recoverable_kept (disk_of state c) (ledger_of a) (stage_of a) found.0 found.1 kept.now.images };
      }

  -- where what a read gave is one state, it's enough that this one is kept
  pub settled_then : (a b c : Commit D) (entries : List Entry) (files : Files) → Same a b → Unsettled state a → Recovers (ledger_of a) (stage_of a) entries files ((disk_of state a).seen)
      → SettlesHeld state a b → PreservesHeld state b c entries files → SettlesHeld state a c
  settled_then a b c entries files same can recovers f s =
      let moved : Preserves (disk_of state b) (disk_of state c) (ledger_of a) (stage_of a) entries files = subst (λ (n : CommitFiles). Preserves (disk_of state b) (disk_of state c) n.ledger n.stage entries files) same.files s in
      let P = RecoversAsBefore (disk_of state a) (ledger_of a) (stage_of a) in
      let seen_is = seen_left a.disk.now can.honest in
      record {
        each_moment = LeavesOnly-then (disk_of state a) (disk_of state b) (disk_of state c) P (Recovers (ledger_of a) (stage_of a) entries files) P (λ image r. r)
            (λ image r. (entries, files, (disk_of state a).seen, seen_is, recovers, r)) f.each_moment moved.each_moment;
        seen = λ js others r. one_of (ledger_of a) (stage_of a) entries js files others ((disk_of state a).seen) ((disk_of state c).seen) recovers r moved.now.seen;
        again = record { honest = moved.now.honest; differ = can.differ; images = recoverable_kept (disk_of state c) (ledger_of a) (stage_of a) entries files moved.now.images };
      }

  pub only_settled : (a b : Commit D) (entries : List Entry) (entry : Entry) (after : Files) → Same a b → SettlesHeld state a b
      → LeavesOnly (disk_of state a) (disk_of state b) (BeforeOrWith (disk_of state a) (ledger_of a) (stage_of a) entries entry after) × CanSettle (disk_of state b) (ledger_of a) (stage_of a)
  only_settled a b entries entry after same f = (
    leaves_weaker (disk_of state a) (disk_of state b) _ _ (λ image r. inl r) f.each_moment,
    f.again,
  )

  -- settling, staging and sealing, and then the gate and the outputs
  pub whole_on : (a b c : Commit D) (entries : List Entry) (entry : Entry) (before after : Files) → Same a b → Unsettled state a → Recovers (ledger_of a) (stage_of a) entries before ((disk_of state a).seen)
      → SettlesHeld state a b → LeavesEither state b c entries entry before after
      → LeavesOnly (disk_of state a) (disk_of state c) (BeforeOrWith (disk_of state a) (ledger_of a) (stage_of a) entries entry after) × CanSettle (disk_of state c) (ledger_of a) (stage_of a)
  whole_on a b c entries entry before after ab can recovers f s =
      let files : b.files ≡ a.files = ab.files in
      let each : LeavesOnly (disk_of state b) (disk_of state c) (RecoversEither (ledger_of a) (stage_of a) entries entry before after) =
      subst (λ (n : CommitFiles). LeavesOnly (disk_of state b) (disk_of state c) (RecoversEither n.ledger n.stage entries entry before after)) ab.files s.each_moment in
      let now : KeepsEither (disk_of state c) (ledger_of a) (stage_of a) entries entry before after =
      subst (λ (n : CommitFiles). KeepsEither (disk_of state c) n.ledger n.stage entries entry before after) ab.files s.now in
      let R = BeforeOrWith (disk_of state a) (ledger_of a) (stage_of a) entries entry after in (
        LeavesOnly-then (disk_of state a) (disk_of state b) (disk_of state c) (RecoversAsBefore (disk_of state a) (ledger_of a) (stage_of a)) (RecoversEither (ledger_of a) (stage_of a) entries entry before after) R
            (λ image r. inl r)
            (λ image e. ⊎_elim (λ r. inl (entries, before, (disk_of state a).seen, seen_left a.disk.now can.honest, recovers, r)) (λ r. inr r) e)
            f.each_moment each,
        record { honest = now.honest; differ = can.differ; images = recoverable_either (disk_of state c) (ledger_of a) (stage_of a) entries entry before after now.images },
      )

  -- once it is done
  pub done_on : (a b : Commit D) (entries : List Entry) (files : Files) → Same a b → Settled state b entries files → Keeps (disk_of state b) (ledger_of a) (stage_of a) entries files × ShowsFiles (disk_of state b) (ledger_of a) (stage_of a) files
  done_on a b entries files same is =
      subst (λ (n : CommitFiles). Keeps (disk_of state b) n.ledger n.stage entries files × ShowsFiles (disk_of state b) n.ledger n.stage files) same.files
      (settled_shows (disk_of state b) (ledger_of b) (stage_of b) b.place entries files (seen_left b.disk.now is.honest) is)

  -- a step keeps the state, and leaves the disk settled
  step_keeps : (a b : Commit D) (entries : List Entry) (files : Files) → Settled state a entries files → IsStep state entries files a b → Same a b × (PreservesHeld state a b entries files × Settled state b entries files)
  step_keeps a b entries files is step = ⊎_elim
      (λ goes. (goes.same, goes_keeps a b entries files goes is))
      (λ sealed. (sealed.0, (sealed.1, settled_of _ _ _ _ sealed.2.0 entries files sealed.2.1 sealed.2.2.0)))
      step

  -- and so do any number of steps behind what was settled
  pub steps_keep : (a b : Commit D) (steps : List (Commit D)) (entries : List Entry) (files : Files) → Unsettled state a → Same a b → SettlesHeld state a b → Settled state b entries files → AreSteps state entries files b steps
      → (Recovers (ledger_of a) (stage_of a) entries files ((disk_of state a).seen)) → Same a (last_of b steps) × (SettlesHeld state a (last_of b steps) × Settled state (last_of b steps) entries files)
  steps_keep a b [] entries files can ab f is steps recovers = (ab, (f, is))
  steps_keep a b (next ∷ steps) entries files can ab f is more recovers =
      let one = step_keeps b next entries files is more.0 in
      steps_keep a next steps entries files can (same_on a b next ab one.0) (settled_then a b next entries files ab can recovers f one.1.0) one.1.1 more.1 recovers
