-- How long logs are.
use Rattle.std.specs.Prelude.{◌≡◌, ◌≤◌, ◌^◌, ℕ, List, length, map, Option, Some, None, All, Contains, option_map}
use Rattle.std.specs.Bool.{⊤}
use Rattle.lp_model.specs.Outside.{Folder, Told, bytes_in}
use Rattle.log_listing.specs.declared.fault.ListFault.{ListFault}
use Rattle.log_listing.specs.declared.fault.ListFault.TheVariants as F
use Rattle.log_listing.specs.declared.lengths.NameLength.{NameLength}

-- a log's length at some moment between two: no less than before, and no more than now
pub record IsLength (before now : Option Folder) (log : NameLength) : Type 0 where
  pub least : Told before (λ files. length (bytes_in files log.name) ≤ log.length)
  pub most : Told now (λ files. log.length ≤ length (bytes_in files log.name))
  pub bounded : log.length ≤ 2 ^ 46

abbrev pub names_in : List NameLength → List (List ℕ)
names_in logs = map (λ log. log.name) logs

-- these logs with their lengths
pub record AreLengths (before now : Option Folder) (names : List (List ℕ)) (logs : List NameLength) : Type 0 where
  pub same : names_in logs ≡ names
  pub each : All (IsLength before now) logs

-- a log's length now
abbrev pub IsLengthNow : Option Folder → List ℕ → ℕ → Type 0
IsLengthNow told name count = Told told (λ files. Some count ≡ option_map length (files name))

-- one of these names is gone, or a call failed
abbrev pub IsGone : Option Folder → List (List ℕ) → ListFault → Type 0
IsGone told names (F.BadName fault) = ⊥
IsGone told names (F.NoSuchLog name) = Contains names name × Told told (λ files. files name ≡ None)
IsGone told names F.TooManyLogs = ⊥
IsGone told names F.Logs = ⊤
IsGone told names F.Memory = ⊤
