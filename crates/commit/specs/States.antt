-- The states of a disk between the steps of a commit, and what is known of each file within a step.
use Rattle.std.specs.Prelude.{◌≡◌, ◌≢◌, ℕ, ◌<◌, ◌^◌, List, [], ◌∷◌, ◌++◌, length, take, map, Some, slice_get}
use Rattle.std.specs.List.{AllByRecursion}
use Rattle.std.specs.Bool.{⊤}
use Rattle.disk_model.specs.Disk.{Files, DiskState, IsImage, IsSynced, LeavesOnly}
use Rattle.ledger_model.specs.Entries.{Entry, Output}
use Rattle.ledger_model.specs.Grammar.{IsEntry, payload_of}
use Rattle.ledger_model.specs.Ledgers.{Pair, IsPair, body_of, spelled_pair, front_of, IsClosed, IsLedger}
use Rattle.recovery_model.specs.Recovered.{IsOther, IsFile, AreApart, Recovers, RecoversEither}
use Rattle.commit.specs.Redo.{frames_in}

-- whatever a crash now leaves, and what a read gives, stands for this
pub record Keeps (disk : DiskState) (ledger stage : List ℕ) (entries : List Entry) (files : Files) : Type 0 where
  pub honest : disk.honest
  pub images : (image : Files) → IsImage disk image → Recovers ledger stage entries files image
  pub seen : Recovers ledger stage entries files disk.seen

-- all that a crash at any moment since old left, or now leaves, and what a read gives, stands for this
pub record Preserves (old new : DiskState) (ledger stage : List ℕ) (entries : List Entry) (files : Files) : Type 0 where
  pub each_moment : LeavesOnly old new (Recovers ledger stage entries files)
  pub now : Keeps new ledger stage entries files

-- whatever a crash now leaves, and what a read gives, stands for the state before an entry or for the one after it
pub record KeepsEither (disk : DiskState) (ledger stage : List ℕ) (entries : List Entry) (entry : Entry) (before after : Files) : Type 0 where
  pub honest : disk.honest
  pub images : (image : Files) → IsImage disk image → RecoversEither ledger stage entries entry before after image
  pub seen : RecoversEither ledger stage entries entry before after disk.seen

-- an entry that may be written: it has its form, its length has 64 bits, and no output is the ledger or the stage
pub record IsGood (ledger stage : List ℕ) (entry : Entry) : Type 0 where
  pub is_entry : IsEntry entry
  pub size : length (payload_of entry) < 2 ^ 64
  pub apart : AreApart ledger stage entry.outputs

-- the done byte of the last of these is set, or there is none
abbrev pub LastIsDone : List Pair → Type 0
LastIsDone [] = ⊤
LastIsDone (pair ∷ []) = pair.done ≡ 90
LastIsDone (pair ∷ next ∷ pairs) = LastIsDone (next ∷ pairs)

-- the last entry is done or there is none: all is on the disk but the stage, and the next gate stands closed at a place of the ledger
pub record IsSettled (disk : DiskState) (ledger stage : List ℕ) (place : ℕ) (entries : List Entry) (files : Files) : Type 0 where
  pub honest : disk.honest
  pub differ : ledger ≢ stage
  pub pairs : List Pair
  pub fit : AllByRecursion IsPair pairs
  pub finished : LastIsDone pairs
  pub rest : List ℕ
  pub split : disk.seen ledger ≡ front_of pairs ++ rest
  pub closed : IsClosed rest
  pub ledger_synced : IsSynced disk ledger
  pub place_is : place ≡ length (front_of pairs)
  pub entries_are : entries ≡ map (λ pair. pair.entry) pairs
  pub files_are : (name file : List ℕ) → IsOther ledger stage name → disk.may_leave name file → file ≡ files name

-- the ledger has no entries, and all is on the disk but the stage
pub record HasNone (disk : DiskState) (ledger stage : List ℕ) (files : Files) : Type 0 where
  pub honest : disk.honest
  pub differ : ledger ≢ stage
  pub is_ledger : IsLedger (disk.seen ledger) []
  pub ledger_synced : IsSynced disk ledger
  pub files_are : (name file : List ℕ) → IsOther ledger stage name → disk.may_leave name file → file ≡ files name

-- the texts of an entry's outputs are staged, and with them the disk would stand for these files
pub record HasStaged (disk : DiskState) (ledger stage : List ℕ) (entry : Entry) (before after : Files) : Type 0 where
  pub good : IsGood ledger stage entry
  pub whole : entry.staged ≡ length (disk.seen stage)
  pub staged : (name : List ℕ) → IsOther ledger stage name → IsFile (frames_in disk stage entry.staged) entry.outputs name (before name) (after name)

-- an entry is on the disk behind a closed gate, and so are the texts of its outputs; with it the disk would stand for the second files
pub record IsSealed (disk : DiskState) (ledger stage : List ℕ) (place : ℕ) (entry : Entry) (entries : List Entry) (before after : Files) : Type 0 where
  pub honest : disk.honest
  pub differ : ledger ≢ stage
  pub good : IsGood ledger stage entry
  pub pairs : List Pair
  pub fit : AllByRecursion IsPair pairs
  pub finished : LastIsDone pairs
  pub gate : ℕ
  pub shut : gate ≢ 165
  -- its done byte is 0, and the pair 0 0 stands behind it
  pub more : List ℕ
  pub ledger_is : disk.seen ledger ≡ front_of pairs ++ (gate ∷ 0 ∷ body_of entry) ++ 0 ∷ 0 ∷ more
  pub ledger_synced : IsSynced disk ledger
  pub stage_synced : IsSynced disk stage
  pub place_is : place ≡ length (front_of pairs)
  pub entries_are : entries ≡ map (λ pair. pair.entry) pairs
  pub files_are : (name file : List ℕ) → IsOther ledger stage name → disk.may_leave name file → file ≡ before name
  pub staged : (name : List ℕ) → IsOther ledger stage name → IsFile (frames_in disk stage entry.staged) entry.outputs name (before name) (after name)

-- the last entry is open, and isn't done: its gate stands at a place of the ledger, and all is on the disk but its outputs
pub record IsOpen (disk : DiskState) (ledger stage : List ℕ) (place : ℕ) (entry : Entry) (entries : List Entry) (files : Files) : Type 0 where
  pub honest : disk.honest
  pub differ : ledger ≢ stage
  pub good : IsGood ledger stage entry
  pub earlier : List Pair
  pub fit : AllByRecursion IsPair earlier
  pub done : ℕ
  pub not_done : done ≢ 90
  pub rest : List ℕ
  pub closed : IsClosed rest
  pub ledger_is : disk.seen ledger ≡ front_of earlier ++ spelled_pair (record { done = done; entry = entry }) ++ rest
  pub ledger_synced : IsSynced disk ledger
  pub stage_synced : IsSynced disk stage
  pub place_is : place ≡ length (front_of earlier)
  pub entries_are : entries ≡ map (λ pair. pair.entry) earlier ++ entry ∷ []
  pub files_are : (name file : List ℕ) → IsOther ledger stage name → disk.may_leave name file → IsFile (frames_in disk stage entry.staged) entry.outputs name file (files name)

-- What a read gives of the ledger has an entry with its body whole, behind these pairs and whatever its own gate and done byte are; these are the entries up to it.
pub record LiesIn (disk : DiskState) (ledger : List ℕ) (entries : List Entry) (entry : Entry) : Type 0 where
  pub earlier : List Pair
  pub fit : AllByRecursion IsPair earlier
  pub gate : ℕ
  pub done : ℕ
  pub more : List ℕ
  pub ledger_is : disk.seen ledger ≡ front_of earlier ++ (gate ∷ done ∷ body_of entry) ++ more
  pub entries_are : entries ≡ map (λ pair. pair.entry) earlier ++ entry ∷ []

-- What is known of each file within a step, by its name.

-- an entry is written behind a closed gate: the ledger up to the gate and the files stay
pub record Resting (ledger stage : List ℕ) (pairs : List Pair) (gate : ℕ) (files : Files) (name file : List ℕ) : Type 0 where
  pub ledger_is : name ≡ ledger → (next : ℕ) × (more : List ℕ) × (file ≡ front_of pairs ++ gate ∷ next ∷ more)
  pub file_is : IsOther ledger stage name → file ≡ files name

-- a ledger with no entries is begun
pub record Beginning (ledger stage : List ℕ) (files : Files) (name file : List ℕ) : Type 0 where
  pub ledger_is : name ≡ ledger → IsLedger file []
  pub file_is : IsOther ledger stage name → file ≡ files name

-- a gate is opened
pub record Gating (ledger stage stage_bytes : List ℕ) (pairs : List Pair) (done : ℕ) (entry : Entry) (rest : List ℕ) (files : Files) (name file : List ℕ) : Type 0 where
  pub ledger_is : name ≡ ledger → (gate : ℕ) × (file ≡ front_of pairs ++ (gate ∷ done ∷ body_of entry) ++ rest)
  pub stage_is : name ≡ stage → file ≡ stage_bytes
  pub file_is : IsOther ledger stage name → file ≡ files name

-- the outputs of an open entry are written, of which so many are done
pub record Known (ledger stage ledger_bytes stage_bytes : List ℕ) (entry : Entry) (files : Files) (count : ℕ) (name file : List ℕ) : Type 0 where
  pub ledger_is : name ≡ ledger → file ≡ ledger_bytes
  pub stage_is : name ≡ stage → file ≡ stage_bytes
  pub restored : IsOther ledger stage name → IsFile (take entry.staged stage_bytes) entry.outputs name file (files name)
  pub done : (k : ℕ) (output : Output) → k < count → slice_get entry.outputs k ≡ Some output → output.name ≡ name → file ≡ files name

-- all outputs are written, and the done byte is set
pub record Settling (ledger stage stage_bytes : List ℕ) (earlier : List Pair) (entry : Entry) (rest : List ℕ) (files : Files) (name file : List ℕ) : Type 0 where
  pub ledger_is : name ≡ ledger → (done : ℕ) × (file ≡ front_of earlier ++ spelled_pair (record { done = done; entry = entry }) ++ rest)
  pub stage_is : name ≡ stage → file ≡ stage_bytes
  pub file_is : IsOther ledger stage name → file ≡ files name

-- each file read is what the disk stands for, and is on the disk
abbrev pub ShowsFiles : DiskState → List ℕ → List ℕ → Files → Type 0
ShowsFiles disk ledger stage files = (name : List ℕ) → IsOther ledger stage name → (disk.seen name ≡ files name) × IsSynced disk name
