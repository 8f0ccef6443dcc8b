-- The files that a run's outputs make of those before it.
use Rattle.std.specs.Prelude.{ℕ, ◌+◌, List, [], ◌∷◌, ◌++◌, take, bytes_eq, if◌then◌else◌}
use Rattle.std.specs.Bool.{⊤}
use Rattle.disk_model.specs.Disk.{Files, DiskState}
use Rattle.ledger_model.specs.Entries.{Output}
use Rattle.recovery_model.specs.Stage.{IsStaged}
use Rattle.run_model.specs.Meanings.{Split}
use Rattle.run_model.specs.Right.{text_at}

-- a file with the first of these outputs that has its name
abbrev pub file_with : List Output → List Split → List ℕ → List ℕ → List ℕ
file_with [] splits name old = old
file_with (output ∷ outputs) [] name old = old
file_with (output ∷ outputs) (split ∷ splits) name old = if bytes_eq output.name name then take output.base old ++ text_at output.base split else file_with outputs splits name old

abbrev pub files_with : List Output → List Split → Files → Files
files_with outputs splits files name = file_with outputs splits name (files name)

-- an output with its split, in the stage
pub record IsPlaced (disk : DiskState) (stage : List ℕ) (index : ℕ) (output : Output) (split : Split) : Type 0 where
  pub staged : IsStaged (disk.seen stage) index output (text_at output.base split)

-- outputs and their splits, numbered from an index
abbrev pub ArePlaced : DiskState → List ℕ → ℕ → List Output → List Split → Type 0
ArePlaced disk stage index [] [] = ⊤
ArePlaced disk stage index [] (split ∷ splits) = ⊥
ArePlaced disk stage index (output ∷ outputs) [] = ⊥
ArePlaced disk stage index (output ∷ outputs) (split ∷ splits) = IsPlaced disk stage index output split × ArePlaced disk stage (index + 1) outputs splits
