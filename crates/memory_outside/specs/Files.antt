-- The files of a list, by name, and how they change.
use Rattle.std.specs.Prelude.{◌≡◌, ◌≢◌, ℕ, Bool, List, [], ◌∷◌, Some, None, bytes_eq, if◌then◌else◌}
use Rattle.lp_model.specs.Outside.{Folder, bytes_in}
use Rattle.disk_model.specs.Disk.{Files}
use Rattle.memory_outside.specs.declared.files.MemoryFile.{MemoryFile}

-- whether a file has that name
abbrev pub is_named : List ℕ → MemoryFile → Bool
is_named name file = bytes_eq file.name name

-- the first file of that name
abbrev pub folder_of : List MemoryFile → Folder
folder_of [] name = None
folder_of (file ∷ files) name = if bytes_eq file.name name then Some file.bytes else folder_of files name

-- the same, where an absent file has no bytes
abbrev pub files_in : List MemoryFile → Files
files_in files name = bytes_in (folder_of files) name

-- a file under another name, if it has the one
abbrev pub renamed : List ℕ → List ℕ → MemoryFile → MemoryFile
renamed from to file = if is_named from file then record { name = to; bytes = file.bytes } else file

-- files with other bytes for one name
abbrev pub put_in : List ℕ → List ℕ → Files → Files
put_in name bytes files other = if bytes_eq other name then bytes else files other

-- one file has these bytes now, and all else is as before
pub record Changes (before now : Folder) (name bytes : List ℕ) : Type 0 where
  pub there : now name ≡ Some bytes
  pub others : (other : List ℕ) → other ≢ name → now other ≡ before other

-- one file has another name now, and all else is as before
pub record Renames (before now : Folder) (from to : List ℕ) : Type 0 where
  pub there : now to ≡ before from
  pub gone : now from ≡ None
  pub others : (other : List ℕ) → other ≢ from → other ≢ to → now other ≡ before other

-- one file is gone, and all else is as before
pub record Removes (before now : Folder) (name : List ℕ) : Type 0 where
  pub gone : now name ≡ None
  pub others : (other : List ℕ) → other ≢ name → now other ≡ before other
