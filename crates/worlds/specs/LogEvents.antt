-- What happens to logs between runs.
use Rattle.std.specs.Prelude.{◌≡◌, ◌≢◌, ◌⊎◌, ℕ, ◌+◌, ◌<◌, ◌≤◌, ◌^◌, true, List, [], ◌++◌, Option, Some, None, IsSome}
use Rattle.disk_model.specs.Disk.{DiskState}
use Rattle.ledger_model.specs.Entries.{Entry, Span}
use Rattle.run_model.specs.Logs.{Rotation, names, numbers, Logs, Parting, generation_name, IsLive, IsPast, IsLastEnd}
use Rattle.lp_model.specs.Complete.{IsAmong}
use Rattle.run_model.specs.Kept.{spans_of, Knows}
use Rattle.run_model.specs.Steps.{Setting}
use Rattle.worlds.specs.Worlds.{ByEachImage}

-- one value of a table changes
pub record Sets {A : Type 0} (key : List ℕ) (value : Option A) (old new : List ℕ → Option A) : Type 0 where
  pub here : new key ≡ value
  pub elsewhere : (other : List ℕ) → other ≢ key → new other ≡ old other

-- bytes are appended to a log that is there
pub record Appends (rotation : Rotation) (parting : Parting) (name bytes : List ℕ) (old new : Logs) : Type 0 where
  pub identity : List ℕ
  pub is_log : parting.is_log name ≡ true
  pub live : IsLive rotation old name identity
  pub before : List ℕ
  pub there : old.folder name ≡ Some before
  pub folder : Sets name (Some (before ++ bytes)) old.folder new.folder
  pub written : Sets identity (Some (before ++ bytes)) old.written new.written
  pub rotations : new.rotations ≡ old.rotations

-- how a new log is told apart: under numbers it is a stem of which no file is there
abbrev pub AppearsAs : Rotation → Parting → List ℕ → List ℕ → Logs → Logs → Type 0
AppearsAs names parting name identity old new = (identity ≡ name) × (new.rotations ≡ old.rotations)
AppearsAs numbers parting name identity old new =
    (identity ≡ generation_name name 1) × (parting.is_stem name ≡ true) × ((number : ℕ) → 1 ≤ number → old.folder (generation_name name number) ≡ None) × Sets name (Some 0) old.rotations new.rotations

-- an empty log appears that was never written
pub record Appears (rotation : Rotation) (parting : Parting) (name : List ℕ) (old new : Logs) : Type 0 where
  pub identity : List ℕ
  pub is_log : parting.is_log name ≡ true
  pub absent : old.folder name ≡ None
  pub never : old.written identity ≡ None
  pub appears_as : AppearsAs rotation parting name identity old new
  pub folder : Sets name (Some []) old.folder new.folder
  pub written : Sets identity (Some []) old.written new.written

-- a stem is rotated: its file takes the next number, and an empty one starts
pub record Rotates (rotation : Rotation) (stem : List ℕ) (old new : Logs) : Type 0 where
  pub by_numbers : rotation ≡ numbers
  pub count : ℕ
  pub was : old.rotations stem ≡ Some count
  pub fits : count + 1 < 2 ^ 63
  pub bytes : List ℕ
  pub there : old.folder stem ≡ Some bytes
  pub moved : new.folder (generation_name stem (count + 1)) ≡ Some bytes
  pub begun : new.folder stem ≡ Some []
  pub files_stay : (other : List ℕ) → other ≢ stem → other ≢ generation_name stem (count + 1) → new.folder other ≡ old.folder other
  pub rotations : Sets stem (Some (count + 1)) old.rotations new.rotations
  pub written : Sets (generation_name stem (count + 2)) (Some []) old.written new.written

-- the entries have a span that ends at the last end of a line
pub record HasTaken (identity bytes : List ℕ) (entries : List Entry) : Type 0 where
  pub span : Span
  pub among : IsAmong span (spans_of entries)
  pub same : span.identity ≡ identity
  pub last : IsLastEnd bytes span.to

-- a rotated generation goes: each image knows a later one
pub record PassedGoes (setting : Setting) (name : List ℕ) (old new : Logs) (disk : DiskState) : Type 0 where
  pub stem : List ℕ
  pub number : ℕ
  pub past : IsPast old stem number
  pub name_is : name ≡ generation_name stem number
  pub passed : ByEachImage setting disk (λ entries. (later : ℕ) × (number < later) × Knows entries stem later)
  pub written : new.written ≡ old.written

-- or no image knows the stem, and a newer one is there: then what was written to it is forgotten
pub record UnknownGoes (setting : Setting) (name : List ℕ) (old new : Logs) (disk : DiskState) : Type 0 where
  pub stem : List ℕ
  pub number : ℕ
  pub name_is : name ≡ generation_name stem number
  pub newer : ℕ
  pub newer_past : IsPast old stem newer
  pub some : 1 ≤ number
  pub less : number < newer
  pub newer_there : IsSome (old.folder (generation_name stem newer))
  pub unknown : ByEachImage setting disk (λ entries. (other : ℕ) → Knows entries stem other → ⊥)
  pub written : Sets name None old.written new.written

-- which logs may go; under names, one of which each image has taken all lines
abbrev pub MayGo : Rotation → Setting → List ℕ → List ℕ → Logs → Logs → DiskState → Type 0
MayGo names setting name bytes old new disk = ByEachImage setting disk (HasTaken name bytes) × (new.written ≡ old.written)
MayGo numbers setting name bytes old new disk = PassedGoes setting name old new disk ⊎ UnknownGoes setting name old new disk

-- a log's file is removed
pub record Removes (setting : Setting) (name : List ℕ) (old new : Logs) (disk : DiskState) : Type 0 where
  pub is_log : setting.parting.is_log name ≡ true
  pub bytes : List ℕ
  pub there : old.folder name ≡ Some bytes
  pub folder : Sets name None old.folder new.folder
  pub rotations : new.rotations ≡ old.rotations
  pub may_go : MayGo setting.rotation setting name bytes old new disk

-- files that aren't logs change in any way
pub record ChangesOthers (parting : Parting) (old new : Logs) : Type 0 where
  pub logs_stay : (name : List ℕ) → parting.is_log name ≡ true → new.folder name ≡ old.folder name
  pub written : new.written ≡ old.written
  pub rotations : new.rotations ≡ old.rotations
