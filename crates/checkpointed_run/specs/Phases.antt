-- What each phase of a commit has done to a disk.
use Rattle.std.specs.Prelude.{◌≡◌, ℕ, ◌<◌, ◌^◌, List, [], ◌∷◌, ◌++◌, length}
use Rattle.std.specs.Bool.{⊤}
use Rattle.disk_model.specs.Disk.{DiskState, Files}
use Rattle.ledger_model.specs.Entries.{Entry}
use Rattle.ledger_model.specs.Grammar.{payload_of}
use Rattle.ledger.specs.declared.refused.LedgerRefused.{LedgerRefused}
use Rattle.ledger.specs.declared.refused.LedgerRefused.TheVariants as C
use Rattle.ledger.specs.declared.refused.Part2.{Part2}
use Rattle.ledger.specs.declared.refused.Part2.TheVariants.{Stage}
use Rattle.recovery_model.specs.Recovered.{AreApart, Recovers}
use Rattle.commit.specs.declared.phases.Commit.{Commit}
use Rattle.commit.specs.Outputs.{AllStaged, BreaksOutputs}
use Rattle.commit.specs.Phases.{disk_of, ledger_of, stage_of, Same, Unsettled, Settled, Staged, Sealed, Opened, ShowsEntry, PreservesHeld, SettlesHeld, LeavesEither}
use Rattle.commit.specs.Redo.{frames_in}
use Rattle.commit.specs.States.{ShowsFiles}

-- a commit with its disk as it was at an earlier moment
abbrev pub as_of : {D : Type 0} → D → Commit D → Commit D
as_of earlier c = record { disk = record { ref_ptr = c.disk.ref_ptr; ghost_name = c.disk.ghost_name; now = earlier }; files = c.files; place = c.place; staged = c.staged; next = c.next; low = c.low; within = c.within; behind = c.behind }

-- the disk was settled
pub record IsSettledFrom {D : Type 0} (state : D → DiskState) (old new : Commit D) : Type 0 where
  pub same : Same old new
  pub any_moment : Unsettled state old → SettlesHeld state old new
  pub settled : Unsettled state old → (entries : List Entry) (files : Files) → Recovers (ledger_of old) (stage_of old) entries files ((disk_of state old).seen) → Settled state new entries files × ShowsFiles (disk_of state new) (ledger_of old) (stage_of old) files

-- an entry was sealed
pub record IsSealedFrom {D : Type 0} (state : D → DiskState) (entry : Entry) (old new : Commit D) : Type 0 where
  pub same : Same old new
  pub any_moment : (entries : List Entry) (files : Files) → Settled state old entries files → PreservesHeld state old new entries files
  pub small : length (payload_of entry) < 2 ^ 64
  pub sealed : (entries : List Entry) (before after : Files) → Settled state old entries before → Staged state old entry before after → Sealed state new entry entries before after

-- its gate was opened, or was to be
pub record IsOpenedFrom {D : Type 0} (state : D → DiskState) (old new : Commit D) : Type 0 where
  pub same : Same old new
  pub any_moment : (entry : Entry) (entries : List Entry) (before after : Files) → Sealed state old entry entries before after → LeavesEither state old new entries entry before after

-- it was opened, and the entry that was sealed lies behind it
pub record IsOpenFrom {D : Type 0} (state : D → DiskState) (gate opened : Commit D) : Type 0 where
  pub opens : IsOpenedFrom state gate opened
  pub lies : (entry : Entry) (entries : List Entry) (before after : Files) → Sealed state gate entry entries before after → Opened state opened entry (entries ++ entry ∷ []) after

-- The gate was opened, and the outputs were written: the texts of an entry that the disk tells behind the open gate are staged, where none
-- of its outputs is the ledger or the stage.
pub record IsFinishedFrom {D : Type 0} (state : D → DiskState) (gate : Commit D) : Type 0 where
  pub opened : Commit D
  pub opens : IsOpenFrom state gate opened
  pub staged : (told : Entry) → ShowsEntry state opened told → AreApart (ledger_of opened) (stage_of opened) told.outputs → AllStaged (frames_in (disk_of state opened) (stage_of opened) told.staged) told.outputs

-- or the frames of the first that aren't break at a place of the stage
pub record BreaksFrom {D : Type 0} (state : D → DiskState) (gate : Commit D) (part : Part2) (place : ℕ) : Type 0 where
  pub opened : Commit D
  pub opens : IsOpenFrom state gate opened
  pub breaks : (told : Entry) → ShowsEntry state opened told → AreApart (ledger_of opened) (stage_of opened) told.outputs → (part ≡ Stage) × BreaksOutputs (frames_in (disk_of state opened) (stage_of opened) told.staged) told.outputs place

-- a damage that is told behind the gate is such a place
abbrev pub IsDamageFrom : {D : Type 0} → (D → DiskState) → Commit D → LedgerRefused → Type 0
IsDamageFrom state gate C.DiskFault = ⊤
IsDamageFrom state gate (C.LedgerFault part place) = BreaksFrom state gate part place
