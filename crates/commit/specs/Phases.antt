-- The phases of a commit, as facts about the one struct that holds the disk.
use Rattle.std.specs.Prelude.{◌≡◌, ◌≢◌, ◌⊎◌, ℕ, ◌+◌, List, [], ◌∷◌, length, None}
use Rattle.std.specs.Bool.{⊤}
use Rattle.disk_model.specs.Disk.{Files, DiskState, Works, Shows, At, LeavesOnly}
use Rattle.disk_changes.specs.Changes.{Anything}
use Rattle.ledger_model.specs.Entries.{Entry}
use Rattle.ledger_model.specs.Grammar.{payload_of}
use Rattle.ledger.specs.Outputs.{HoldsEntry}
use Rattle.lp_outside.specs.Stages.{StageState}
use Rattle.recovery_model.specs.Recovered.{RecoversEither}
use Rattle.commit.specs.States.{IsSettled, IsSealed, IsOpen, HasStaged, Preserves, KeepsEither}
use Rattle.commit.specs.Putting.{IsText, HasStage}
use Rattle.commit.specs.Resume.{CanSettle, Settles}
use Rattle.commit.specs.declared.phases.Commit.{Commit}

-- what a commit holds

abbrev pub disk_of : {D : Type 0} → (D → DiskState) → Commit D → DiskState
disk_of state c = state c.disk.now

abbrev pub ledger_of : {D : Type 0} → Commit D → List ℕ
ledger_of c = c.files.ledger

abbrev pub stage_of : {D : Type 0} → Commit D → List ℕ
stage_of c = c.files.stage

-- how many bytes of the stage are frames
abbrev pub staged_of : {D : Type 0} → Commit D → ℕ
staged_of c = c.staged

-- where the closed gate stands, or the last entry's
abbrev pub place_of : {D : Type 0} → Commit D → ℕ
place_of c = c.place

-- where the next pair stands, behind an entry that is sealed
abbrev pub next_of : {D : Type 0} → Commit D → ℕ
next_of c = c.next

-- the reference and the two files stay
pub record Same {D : Type 0} (old new : Commit D) : Type 0 where
  pub same_reference : new.disk.ghost_name ≡ old.disk.ghost_name
  pub files : new.files ≡ old.files

-- What a commit lets stand while it stages: the reference, the files and the places stay, and nothing but the stage is written.
pub record Goes {D : Type 0} (state : D → DiskState) (old new : Commit D) : Type 0 where
  pub same : Same old new
  pub place : new.place ≡ old.place
  pub next : new.next ≡ old.next
  pub works : (disk_of state old).honest → Works (At (stage_of old) Anything) (disk_of state old) (disk_of state new)
  pub shows : (disk_of state old).tells → Shows (At (stage_of old) Anything) (disk_of state old) (disk_of state new)

-- the phases

-- the disk may have been stopped anywhere
abbrev pub Unsettled : {D : Type 0} → (D → DiskState) → Commit D → Type 0
Unsettled state c = CanSettle (disk_of state c) (ledger_of c) (stage_of c)

-- the last entry is done
abbrev pub Settled : {D : Type 0} → (D → DiskState) → Commit D → List Entry → Files → Type 0
Settled state c entries files = IsSettled (disk_of state c) (ledger_of c) (stage_of c) c.place entries files

-- and the texts of an entry are staged
abbrev pub Staged : {D : Type 0} → (D → DiskState) → Commit D → Entry → Files → Files → Type 0
Staged state c entry before after = HasStaged (disk_of state c) (ledger_of c) (stage_of c) entry before after

-- the entry lies behind a closed gate
abbrev pub Sealed : {D : Type 0} → (D → DiskState) → Commit D → Entry → List Entry → Files → Files → Type 0
Sealed state c entry entries before after = IsSealed (disk_of state c) (ledger_of c) (stage_of c) c.place entry entries before after × (c.next ≡ c.place + 10 + length (payload_of entry))

-- its gate is open
abbrev pub Opened : {D : Type 0} → (D → DiskState) → Commit D → Entry → List Entry → Files → Type 0
Opened state c entry entries files = IsOpen (disk_of state c) (ledger_of c) (stage_of c) c.place entry entries files × (c.next ≡ c.place + 10 + length (payload_of entry))

-- the disk tells an entry between its gate and the place behind it
abbrev pub ShowsEntry : {D : Type 0} → (D → DiskState) → Commit D → Entry → Type 0
ShowsEntry state c entry = HoldsEntry (disk_of state c) (ledger_of c) (c.place + 10) c.next entry × (c.next ≡ c.place + 10 + length (payload_of entry))

-- what a crash at each moment between two states of a commit left, and now leaves

abbrev pub PreservesHeld : {D : Type 0} → (D → DiskState) → Commit D → Commit D → List Entry → Files → Type 0
PreservesHeld state old new entries files = Preserves (disk_of state old) (disk_of state new) (ledger_of old) (stage_of old) entries files

abbrev pub SettlesHeld : {D : Type 0} → (D → DiskState) → Commit D → Commit D → Type 0
SettlesHeld state old new = Settles (disk_of state old) (disk_of state new) (ledger_of old) (stage_of old)

-- either the state before the entry or the one with it
pub record LeavesEither {D : Type 0} (state : D → DiskState) (old new : Commit D) (entries : List Entry) (entry : Entry) (before after : Files) : Type 0 where
  pub each_moment : LeavesOnly (disk_of state old) (disk_of state new) (RecoversEither (ledger_of old) (stage_of old) entries entry before after)
  pub now : KeepsEither (disk_of state new) (ledger_of old) (stage_of old) entries entry before after

-- the disk as a stage

-- the disk tells that the stage ends where the frames do
abbrev pub HasFrames : {D : Type 0} → (D → DiskState) → Commit D → Type 0
HasFrames state c = HasStage (disk_of state c) (stage_of c) (staged_of c)

-- a text is found through its frames; the length of an output's file is what a read gives
abbrev pub stage_state : {D : Type 0} → (D → DiskState) → Commit D → StageState
stage_state state c = record {
  tells = HasFrames state c;
  is_text = λ output name base mark text. IsText ((disk_of state c).seen (stage_of c)) output mark.last mark.length text;
  is_length = λ name bytes. name ≢ stage_of c → (disk_of state c).tells → bytes ≡ length ((disk_of state c).seen name);
  written = None;
  taken = None;
}

-- a run

-- a step between a disk that was settled and its next gate: calls of the stage, or an entry that is sealed
abbrev pub IsStep : {D : Type 0} → (D → DiskState) → List Entry → Files → Commit D → Commit D → Type 0
IsStep state entries files old new = Goes state old new ⊎ (Same old new × PreservesHeld state old new entries files × ((entry : Entry) × (after : Files) × Sealed state new entry entries files after))

-- any number of them, one behind the other
abbrev pub AreSteps : {D : Type 0} → (D → DiskState) → List Entry → Files → Commit D → List (Commit D) → Type 0
AreSteps state entries files first [] = ⊤
AreSteps state entries files first (next ∷ steps) = IsStep state entries files first next × AreSteps state entries files next steps

abbrev pub last_of : {D : Type 0} → Commit D → List (Commit D) → Commit D
last_of first [] = first
last_of first (next ∷ steps) = last_of next steps
