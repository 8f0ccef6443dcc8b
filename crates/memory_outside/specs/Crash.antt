-- What a crash leaves of a disk in memory.
use Rattle.std.specs.Prelude.{◌≡◌, ℕ, ◌+◌, ◌-◌, min, Bool, false, not, List, [], ◌∷◌, length, take, drop, replicate, bytes_eq, if◌then◌else◌}
use Rattle.std.specs.List.{list_any}
use Rattle.disk_model.specs.Disk.{Files, At, Shortened, overwritten}
use Rattle.disk_model.specs.Disk.{Torn as TornBy}
use Rattle.memory_outside.specs.Files.{put_in}
use Rattle.memory_outside.specs.Store.{MayLeave}
use Rattle.memory_outside.specs.declared.store.Call.{Call}
use Rattle.memory_outside.specs.declared.store.Call.TheVariants.{Write, Cut, Sync}
use Rattle.memory_outside.specs.declared.replaying.Torn.{Torn}
use Rattle.memory_outside.specs.declared.replaying.Torn.TheVariants.{Kept, Lost, Filled}

-- the call makes this file lasting
abbrev pub syncs : List ℕ → Call → Bool
syncs name (Sync synced bytes) = bytes_eq synced name
syncs name (Write written gap at bytes) = false
syncs name (Cut cut to) = false

-- the call is a write or a cut that none behind it made lasting
abbrev pub is_unsynced : Call → List Call → Bool
is_unsynced (Write name gap at bytes) behind = not (list_any (syncs name) behind)
is_unsynced (Cut name to) behind = not (list_any (syncs name) behind)
is_unsynced (Sync name bytes) behind = false

-- one byte over all places from one up to another, or from the end on where that comes first
abbrev pub filled : ℕ → ℕ → ℕ → List ℕ → List ℕ
filled from to byte old = overwritten old (min from (length old)) (replicate (to - min from (length old)) byte)

-- the files after a call that was kept, lost, or filled with a byte; a sync had noted the file's bytes
abbrev pub replayed : Torn → Call → Files → Files
replayed Kept (Write name gap at bytes) files = put_in name (overwritten (files name) at bytes) files
replayed Lost (Write name gap at bytes) files = files
replayed (Filled byte) (Write name gap at bytes) files = put_in name (filled (at - gap) (at + length bytes) byte (files name)) files
replayed Kept (Cut name to) files = put_in name (take to (files name)) files
replayed Lost (Cut name to) files = files
replayed (Filled byte) (Cut name to) files = put_in name (take to (files name)) files
replayed torn (Sync name bytes) files = put_in name bytes files

-- what the list says of the next one, and what is left of the list
abbrev pub next_of : List Torn → Torn
next_of [] = Lost
next_of (torn ∷ others) = torn

-- the files after these calls, each unsynced write or cut as the list says
abbrev pub crashed : List Torn → List Call → Files → Files
crashed torn [] files = files
crashed torn (call ∷ calls) files = if is_unsynced call calls then crashed (drop 1 torn) calls (replayed (next_of torn) call files) else crashed torn calls (replayed Lost call files)

-- files after a call that was done again, whole, in part or not at all
abbrev pub Replays : Call → Files → Files → Type 0
Replays (Write name gap at bytes) before now = (other : List ℕ) → At name (TornBy (at - gap) (at + length bytes)) other (before other) (now other)
Replays (Cut name to) before now = (other : List ℕ) → At name (Shortened to) other (before other) (now other)
Replays (Sync name bytes) before now = now ≡ put_in name bytes before

-- files that a crash may leave after these calls, where some are
abbrev pub AreImage : Files → List Call → Files → Type 0
AreImage first calls files = ((name : List ℕ) → (c : List ℕ) × MayLeave first calls name c) → (name : List ℕ) → MayLeave first calls name (files name)
