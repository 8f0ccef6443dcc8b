-- The files of a stem, as the code has them.
use Rattle.std.specs.Prelude.{◌≡◌, ℕ, Bool, true, false, List, [], ◌∷◌, Option, Some, None, IsSome}
use Rattle.std.specs.BTreeSet.{BTreeSet}
use Rattle.lp_model.specs.Outside.{Folder}
use Rattle.ledger_model.specs.Entries.{Entry}
use Rattle.run_model.specs.Kept.{Knows}
use Rattle.generations.specs.Ranges.{IsLeast}
use Rattle.run_model.specs.Logs.{generation_name}
use Rattle.run_model.specs.Listed.{Listed, IsGreatest}
use Rattle.generations.specs.declared.listing.ListedFile.{ListedFile}

abbrev pub listed_of : ListedFile → Listed
listed_of file = record { name = file.name; identity = file.identity }

-- the greatest generation of a stem that the entries know, or none
abbrev pub IsKnownAs : List Entry → List ℕ → Option ℕ → Type 0
IsKnownAs entries stem None = (number : ℕ) → Knows entries stem number → ⊥
IsKnownAs entries stem (Some number) = IsGreatest entries stem number

-- the first generation to read: the one that is known, or the least that is there
abbrev pub IsFirstOf : BTreeSet ℕ → Option ℕ → ℕ → Type 0
IsFirstOf numbers None first = IsLeast numbers first
IsFirstOf numbers (Some number) first = first ≡ number

-- whether a stem's own file is there
abbrev pub IsLiveAs : Folder → List ℕ → Bool → Type 0
IsLiveAs folder stem false = folder stem ≡ None
IsLiveAs folder stem true = IsSome (folder stem)

-- that file as a generation, where it is there
abbrev pub live_part : Bool → List ℕ → ℕ → List Listed
live_part false stem number = []
live_part true stem number = record { name = stem; identity = generation_name stem number } ∷ []
