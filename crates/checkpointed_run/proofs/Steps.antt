-- From the phases of a run to its step: what each moment leaves, and what stands at the end.
use Rattle.std.proofs.Common.{◌≢◌, ◌⊎◌, ⊎_elim, ℕ, ◌≤◌, List, [], ◌∷◌, ◌++◌, subst, inl, inr}
use Rattle.disk_model.specs.Disk.{Files, DiskState, IsImage, LeavesOnly}
use Rattle.ledger_model.specs.Entries.{Entry}
use Rattle.recovery_model.specs.Recovered.{Recovers}
use Rattle.run_model.specs.Logs.{Logs}
use Rattle.run_model.specs.Meanings.{Meaning, Asked}
use Rattle.run_model.specs.Right.{IsNext, IsSettled}
use Rattle.run_model.specs.Steps.{Setting, IsOfCall, IsOfAsked, Ending, well, disk_failed, RunStep}
use Rattle.commit.specs.declared.phases.Commit.{Commit}
use Rattle.commit.specs.Phases.{disk_of, ledger_of, stage_of, Goes, Same, Settled, Staged, Sealed, Unsettled, SettlesHeld}
use Rattle.commit.specs.Resume.{CanSettle}
use Rattle.commit.specs.Whole.{BeforeOrWith}
use Rattle.commit.proofs.Composing.{goes_keeps, preserves_on, same_on, settles_on, whole_on, done_on}
use Rattle.checkpointed_run.specs.Phases.{IsSettledFrom, IsSealedFrom, IsOpenedFrom}

-- the world's setting, by the files of a commit
abbrev pub setting_by : {D : Type 0} → Commit D → Setting → Setting
setting_by commit setting = record { rotation = setting.rotation; parting = setting.parting; ledger = ledger_of commit; stage = stage_of commit; start = setting.start }

module _ {D : Type 0} (state : D → DiskState)
    (only_now : (disk : D) (image : Files) → (state disk).honest → (state disk).left_since (state disk).moment image → IsImage (state disk) image)
    (seen_left : (disk : D) → (state disk).honest → IsImage (state disk) (state disk).seen)
    (counts_now : (disk : D) (t : ℕ) (image : Files) → (state disk).honest → t ≤ (state disk).moment → IsImage (state disk) image → (state disk).left_since t image)
    (meaning : Meaning) (setting : Setting) (asked : Asked) (before after : Logs) (old : Commit D) where
  since : (new : Commit D) (image : Files) → (disk_of state new).honest → (disk_of state old).moment ≤ (disk_of state new).moment → IsOfCall (disk_of state old) (disk_of state new) image → (disk_of state new).left_since (disk_of state old).moment image
  since new image honest later of = ⊎_elim (λ s. s) (λ is. counts_now new.disk.now (disk_of state old).moment image honest later is) of

  -- a run that stops before its gate
  pub step_before : (ending : Ending) (new : Commit D) → ending ≢ well → SettlesHeld state old new → RunStep meaning (setting_by old setting) asked ending before after (disk_of state old) (disk_of state new)
  step_before ending new not_well settles = record {
    honest = settles.again.honest;
    does = λ entries files recovers settled. inl (record {
      not_well = not_well;
      each_moment = λ image of. settles.each_moment.each image (since new image settles.again.honest settles.each_moment.later of);
      seen = settles.seen entries files recovers;
    });
  }

  -- what a run makes of the settled disk on which it was started
  pub record Makes (entry : Entry) (started staged : Commit D) (entries : List Entry) (files : Files) : Type 0 where
    pub with_entry : Files
    pub next : IsNext meaning after.written entries files entry with_entry
    pub of_asked : IsOfAsked meaning (setting_by old setting) asked entries before after entry
    pub staged_is : Staged state staged entry files with_entry

  module _ (entry : Entry) (settled started staged gate : Commit D) (unsettled : Unsettled state old) (settles : IsSettledFrom state old settled) (starts : Goes state settled started) (goes : Goes state started staged) (seals : IsSealedFrom state entry staged gate)
      (makes : (entries : List Entry) (files : Files) → Recovers (ledger_of old) (stage_of old) entries files (disk_of state old).seen → IsSettled meaning before.written setting.start entries files → Settled state started entries files → Makes entry started staged entries files) where
    -- up to the gate
    pub record AtGate (entries : List Entry) (files : Files) : Type 0 where
      pub made : Makes entry started staged entries files
      pub same : Same old gate
      pub held : SettlesHeld state old gate
      pub sealed : Sealed state gate entry entries files made.with_entry

    pub at_gate : (entries : List Entry) (files : Files) → Recovers (ledger_of old) (stage_of old) entries files (disk_of state old).seen → IsSettled meaning before.written setting.start entries files → AtGate entries files
    at_gate entries files recovers is_settled =
        let first = (settles.settled unsettled entries files recovers).0 in
        let start = goes_keeps state only_now seen_left settled started entries files starts first in
        let stage = goes_keeps state only_now seen_left started staged entries files goes start.1 in
        let made = makes entries files recovers is_settled start.1 in
        let sealing = seals.any_moment entries files stage.1 in
        let kept = preserves_on state only_now seen_left settled started gate entries files starts.same start.0 (preserves_on state only_now seen_left started staged gate entries files goes.same stage.0 sealing) in
        record {
          made = made;
          same = same_on old settled gate settles.same (same_on settled started gate starts.same (same_on started staged gate goes.same seals.same));
          held = settles_on state only_now seen_left old settled gate settles.same unsettled (settles.any_moment unsettled)
              (λ js others r. let one = (settles.settled unsettled js others r).0 in
              let two = goes_keeps state only_now seen_left settled started js others starts one in
              let three = goes_keeps state only_now seen_left started staged js others goes two.1 in
              preserves_on state only_now seen_left settled started gate js others starts.same two.0 (preserves_on state only_now seen_left started staged gate js others goes.same three.0 (seals.any_moment js others three.1)));
          sealed = seals.sealed entries files made.with_entry stage.1 made.staged_is;
        }

    -- a run that is whole
    pub step_whole : (new : Commit D) → IsOpenedFrom state gate new → ((entries : List Entry) (files others : Files) → Sealed state gate entry entries files others → Settled state new (entries ++ entry ∷ []) others)
        → (some : (entries : List Entry) × (files : Files) × Recovers (ledger_of old) (stage_of old) entries files (disk_of state old).seen × IsSettled meaning before.written setting.start entries files)
        → RunStep meaning (setting_by old setting) asked well before after (disk_of state old) (disk_of state new)
    step_whole new opens done some = record {
      honest = (whole some.0 some.1 some.2 some.3).1.honest;
      does = λ entries files recovers is_settled.
          let g = at_gate entries files recovers is_settled in
          let all = whole entries files recovers is_settled in
          let end = done_on state only_now seen_left old new (entries ++ entry ∷ []) g.made.with_entry (same_on old gate new g.same opens.same) (done entries files g.made.with_entry g.sealed) in
          inr (record {
            entry = entry;
            files_after = g.made.with_entry;
            next = g.made.next;
            of_asked = g.made.of_asked;
            each_moment = λ image of. all.0.each image (since new image all.1.honest all.0.later of);
            ends = record { each = end.0.images; seen = λ name other. (end.1 name other).0 };
          });
    }
      where
        whole : (entries : List Entry) (files : Files) (recovers : Recovers (ledger_of old) (stage_of old) entries files (disk_of state old).seen) (is_settled : IsSettled meaning before.written setting.start entries files)
            → LeavesOnly (disk_of state old) (disk_of state new) (BeforeOrWith (disk_of state old) (ledger_of old) (stage_of old) entries entry (at_gate entries files recovers is_settled).made.with_entry) × CanSettle (disk_of state new) (ledger_of old) (stage_of old)
        whole entries files recovers is_settled =
            let g = at_gate entries files recovers is_settled in
            whole_on state only_now seen_left old gate new entries entry files g.made.with_entry g.same unsettled recovers g.held (opens.any_moment entry entries files g.made.with_entry g.sealed)

    -- what a read gives of it has the entry
    pub whole_seen : (new : Commit D) → IsOpenedFrom state gate new → ((entries : List Entry) (files others : Files) → Sealed state gate entry entries files others → Settled state new (entries ++ entry ∷ []) others)
        → (entries : List Entry) (files : Files) → Recovers (ledger_of old) (stage_of old) entries files (disk_of state old).seen → IsSettled meaning before.written setting.start entries files
        → (others : Files) × Recovers (ledger_of old) (stage_of old) (entries ++ entry ∷ []) others (disk_of state new).seen
    whole_seen new opens done entries files recovers is_settled =
        let g = at_gate entries files recovers is_settled in
        let end = done_on state only_now seen_left old new (entries ++ entry ∷ []) g.made.with_entry (same_on old gate new g.same opens.same) (done entries files g.made.with_entry g.sealed) in
        (g.made.with_entry, end.0.seen)

    -- a run that the disk stops at its gate or behind it
    pub step_stopped : (new : Commit D) → IsOpenedFrom state gate new
        → (some : (entries : List Entry) × (files : Files) × Recovers (ledger_of old) (stage_of old) entries files (disk_of state old).seen × IsSettled meaning before.written setting.start entries files)
        → RunStep meaning (setting_by old setting) asked disk_failed before after (disk_of state old) (disk_of state new)
    step_stopped new opens some = record {
      honest = (opens.any_moment entry some.0 some.1 (at_gate some.0 some.1 some.2 some.3).made.with_entry (at_gate some.0 some.1 some.2 some.3).sealed).now.honest;
      does = λ entries files recovers is_settled.
          let g = at_gate entries files recovers is_settled in
          let either = opens.any_moment entry entries files g.made.with_entry g.sealed in
          let all = whole_on state only_now seen_left old gate new entries entry files g.made.with_entry g.same unsettled recovers g.held either in
          inr (record {
            entry = entry;
            files_after = g.made.with_entry;
            next = g.made.next;
            of_asked = g.made.of_asked;
            each_moment = λ image of. all.0.each image (since new image all.1.honest all.0.later of);
            ends = subst (λ (f : Rattle.commit.specs.declared.phases.CommitFiles.CommitFiles). Recovers f.ledger f.stage entries files (disk_of state new).seen ⊎ Recovers f.ledger f.stage (entries ++ entry ∷ []) g.made.with_entry (disk_of state new).seen) g.same.files either.now.seen;
          });
    }
