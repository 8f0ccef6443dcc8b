-- Which logs a run reads, and up to where.
use Rattle.std.specs.Prelude.{◌≡◌, ◌⊎◌, ℕ, ◌+◌, ◌-◌, ◌<◌, ◌≤◌, ◌^◌, max, List, [], ◌∷◌, ◌++◌, length, map, take, IsSome, Option, Some, None}
use Rattle.std.proofs.Common.{zero, suc}
use Rattle.std.specs.List.{AllZip}
use Rattle.lp_model.specs.Outside.{Folder, bytes_in}
use Rattle.ledger_model.specs.Entries.{Entry, Span}
use Rattle.run_model.specs.Logs.{Rotation, names, numbers, generation_name, IsLastEnd}
use Rattle.run_model.specs.Kept.{kept_place, Knows}

-- a file to read, and the identity of its log
pub record Listed : Type 0 where
  pub name : List ℕ
  pub identity : List ℕ

-- so many rotated files, from one number on
abbrev pub rotated_files : List ℕ → ℕ → ℕ → List Listed
rotated_files stem number zero = []
rotated_files stem number (suc count) = record { name = generation_name stem number; identity = generation_name stem number } ∷ rotated_files stem (number + 1) count

-- the greatest generation of a stem that the entries know
pub record IsGreatest (entries : List Entry) (stem : List ℕ) (number : ℕ) : Type 0 where
  pub known : Knows entries stem number
  pub greatest : (other : ℕ) → Knows entries stem other → other ≤ number

-- a rotated file is there
abbrev pub IsThereAt : Folder → List ℕ → ℕ → Type 0
IsThereAt folder stem number = (1 ≤ number) × (number < 2 ^ 63) × IsSome (folder (generation_name stem number))

-- the greatest number of a rotated file that is there, or 0
pub record IsNewest (folder : Folder) (stem : List ℕ) (number : ℕ) : Type 0 where
  pub there : 1 ≤ number → IsThereAt folder stem number
  pub newest : (other : ℕ) → IsThereAt folder stem other → other ≤ number

-- the least one, or 1
pub record IsOldest (folder : Folder) (stem : List ℕ) (number : ℕ) : Type 0 where
  pub some : 1 ≤ number
  pub there : (((other : ℕ) → IsThereAt folder stem other → ⊥) × (number ≡ 1)) ⊎ IsThereAt folder stem number
  pub oldest : (other : ℕ) → IsThereAt folder stem other → number ≤ other

-- where the files of a stem begin: with the greatest generation that the entries know, or with the oldest that is there
abbrev pub IsFirst : Folder → List Entry → List ℕ → ℕ → Type 0
IsFirst folder entries stem first = IsGreatest entries stem first ⊎ (((number : ℕ) → Knows entries stem number → ⊥) × IsOldest folder stem first)

-- the stem's own file as a generation, if it is there
abbrev pub live_files : Option (List ℕ) → List ℕ → ℕ → List Listed
live_files None stem number = []
live_files (Some bytes) stem number = record { name = stem; identity = generation_name stem number } ∷ []

-- the files of a stem, at least one: the rotated ones from the first to the newest, each of which is there, and then the stem as the generation behind them
pub record ListsStem (folder : Folder) (entries : List Entry) (stem : List ℕ) (listed : List Listed) : Type 0 where
  pub first : ℕ
  pub is_first : IsFirst folder entries stem first
  pub newest : ℕ
  pub is_newest : IsNewest folder stem newest
  pub there : (number : ℕ) → first ≤ number → number ≤ newest → IsThereAt folder stem number
  pub some : (first ≤ newest) ⊎ IsSome (folder stem)
  pub listed_are : listed ≡ rotated_files stem first (newest + 1 - first) ++ live_files (folder stem) stem (max (newest + 1) first)

abbrev pub joined : List (List Listed) → List Listed
joined [] = []
joined (files ∷ more) = files ++ joined more

-- the files of these names: under names each is a log, under numbers each is a stem
abbrev pub Lists : Rotation → Folder → List Entry → List (List ℕ) → List Listed → Type 0
Lists names folder entries reached listed = listed ≡ map (λ name. record { name = name; identity = name }) reached
Lists numbers folder entries reached listed = (each : List (List Listed)) × AllZip (ListsStem folder entries) reached each × (listed ≡ joined each)

-- a span of a log, up to the last end of a line before a cut, or to the kept place where that is greater; the cut is the file's length at some moment between two
pub record IsReadTo (entries : List Entry) (before now : Folder) (file : Listed) (span : Span) : Type 0 where
  pub identity_is : span.identity ≡ file.identity
  pub cut : ℕ
  pub least : length (bytes_in before file.name) ≤ cut
  pub most : cut ≤ length (bytes_in now file.name)
  pub end : ℕ
  pub is_end : IsLastEnd (take cut (bytes_in now file.name)) end
  pub to_is : span.to ≡ max end (kept_place file.identity entries)

-- the spans of a run are those of the files that it lists, in order
pub record AreListed (rotation : Rotation) (entries : List Entry) (reached : List (List ℕ)) (before now : Folder) (spans : List Span) : Type 0 where
  pub files : List Listed
  pub lists : Lists rotation before entries reached files
  pub read : AllZip (IsReadTo entries before now) files spans
