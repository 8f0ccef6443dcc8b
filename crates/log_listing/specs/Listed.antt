-- Which logs names list, as far as the logs tell their files.
use Rattle.std.specs.Prelude.{◌≡◌, ◌⊎◌, ◌<◌, ◌≤◌, ℕ, List, [], ◌∷◌, ◌++◌, length, Contains, Option, Some, None}
use Rattle.std.specs.Bool.{⊤}
use Rattle.std.specs.List.{AllZip}
use Rattle.lp_model.specs.Outside.{Folder, Told}
use Rattle.lp_outside.specs.Matching.{AreMatches}
use Rattle.lp_outside.specs.NameFault.{name_fault}
use Rattle.log_listing.specs.declared.fault.ListFault.{ListFault}
use Rattle.log_listing.specs.declared.fault.ListFault.TheVariants as F
use Rattle.log_listing.specs.Firsts.{firsts, joined, with_names}

-- a text is a name, and it lists these files, at least one
pub record Gives (told : Option Folder) (text : List ℕ) (found : List (List ℕ)) : Type 0 where
  pub is_name : name_fault text ≡ None
  pub matches : Told told (λ files. AreMatches files text found)
  pub some : 0 < length found

-- what texts list: of each text the files that match it, in order; a log that comes again stays at its first place
pub record Lists (told : Option Folder) (texts names : List (List ℕ)) : Type 0 where
  pub found : List (List (List ℕ))
  pub each : AllZip (Gives told) texts found
  pub all : names ≡ firsts (joined found)

-- a text lists more files behind others
pub record Adds (told : Option Folder) (text : List ℕ) (before names : List (List ℕ)) : Type 0 where
  pub found : List (List ℕ)
  pub gives : Gives told text found
  pub all : names ≡ with_names before found

-- the most logs of a list
abbrev pub most_logs : ℕ
most_logs = 100000

-- a text lists more files than there may be, behind others
pub record AddsTooMany (told : Option Folder) (text : List ℕ) (before : List (List ℕ)) : Type 0 where
  pub found : List (List ℕ)
  pub gives : Gives told text found
  pub many : most_logs < length (with_names before found)

-- a text is a name that no file matches
pub record IsMissing (told : Option Folder) (text name : List ℕ) : Type 0 where
  pub same : name ≡ text
  pub is_name : name_fault text ≡ None
  pub none : Told told (λ files. AreMatches files text [])

-- a call of the logs failed, or memory was refused
abbrev pub IsFailure : ListFault → Type 0
IsFailure (F.BadName fault) = ⊥
IsFailure (F.NoSuchLog name) = ⊥
IsFailure F.TooManyLogs = ⊥
IsFailure F.Logs = ⊤
IsFailure F.Memory = ⊤

-- why the list stops at a text, behind the logs of the texts before it
abbrev pub StopsAt : Option Folder → List ℕ → List (List ℕ) → ListFault → Type 0
StopsAt told text before (F.BadName fault) = name_fault text ≡ Some fault
StopsAt told text before (F.NoSuchLog name) = IsMissing told text name
StopsAt told text before F.TooManyLogs = AddsTooMany told text before
StopsAt told text before F.Logs = ⊤
StopsAt told text before F.Memory = ⊤

-- the list stops at the first of these texts that stops it
pub record Stops (told : Option Folder) (texts : List (List ℕ)) (fault : ListFault) : Type 0 where
  pub front : List (List ℕ)
  pub text : List ℕ
  pub back : List (List ℕ)
  pub split : texts ≡ front ++ text ∷ back
  pub before : List (List ℕ)
  pub lists : Lists told front before
  pub few : length before ≤ most_logs
  pub stops : StopsAt told text before fault

-- a log that was listed is gone, which only logs that don't tell their files may answer
pub record IsLost (told : Option Folder) (texts : List (List ℕ)) (name : List ℕ) : Type 0 where
  pub untold : told ≡ None
  pub names : List (List ℕ)
  pub lists : Lists told texts names
  pub listed : Contains names name

-- why texts aren't listed: one of them stops the list, or a log is gone before its length is asked
abbrev pub IsListFault : Option Folder → List (List ℕ) → ListFault → Type 0
IsListFault told texts (F.BadName fault) = Stops told texts (F.BadName fault)
IsListFault told texts (F.NoSuchLog name) = Stops told texts (F.NoSuchLog name) ⊎ IsLost told texts name
IsListFault told texts F.TooManyLogs = Stops told texts F.TooManyLogs
IsListFault told texts F.Logs = ⊤
IsListFault told texts F.Memory = ⊤
