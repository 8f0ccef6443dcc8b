-- Why a query file isn't read.
use Rattle.std.specs.Prelude.{◌≡◌, ℕ, ◌<◌, List, length, Option, Some, None, ⊤}
use Rattle.lp_model.specs.Outside.{Folder, Told}
use Rattle.query_text.specs.declared.fault.QueryFault.{QueryFault}
use Rattle.query_text.specs.declared.fault.QueryFault.TheVariants as Q
use Rattle.lp_outside.specs.NameFault.{name_fault}
use Rattle.query_text.specs.Texts.{IsQueryFault}
use Rattle.requests.specs.Texts.{IsCut, file_in, HoldsText}
use Rattle.requests.specs.declared.fault.RequestFault.{RequestFault}
use Rattle.requests.specs.declared.fault.RequestFault.TheVariants as F

-- a call failed, or memory was refused
abbrev pub IsFailure : RequestFault → Type 0
IsFailure (F.Usage fault) = ⊥
IsFailure (F.BadName fault) = ⊥
IsFailure (F.NoSuchLog name) = ⊥
IsFailure (F.Query fault) = ⊥
IsFailure F.Logs = ⊤
IsFailure F.Memory = ⊤

-- memory was refused
abbrev pub IsMemory : RequestFault → Type 0
IsMemory (F.Usage fault) = ⊥
IsMemory (F.BadName fault) = ⊥
IsMemory (F.NoSuchLog name) = ⊥
IsMemory (F.Query fault) = ⊥
IsMemory F.Logs = ⊥
IsMemory F.Memory = ⊤

-- the file's text is longer than a query may be
pub record IsTooLong (before now : Option Folder) (name : List ℕ) : Type 0 where
  pub text : List ℕ
  pub cut : Told now (λ folder. IsCut before folder name text)
  pub long : 65_536 < length text

abbrev pub IsLengthFault : Option Folder → Option Folder → List ℕ → QueryFault → Type 0
IsLengthFault before now name Q.TooLong = IsTooLong before now name
IsLengthFault before now name Q.NotUtf8 = ⊥
IsLengthFault before now name (Q.Lex f) = ⊥
IsLengthFault before now name (Q.Parse f) = ⊥
IsLengthFault before now name (Q.StdinMisplaced at) = ⊥
IsLengthFault before now name (Q.Plan f) = ⊥

-- why a query file isn't read: it isn't there, or it is too long
abbrev pub IsFileFault : Option Folder → Option Folder → List ℕ → RequestFault → Type 0
IsFileFault before now name (F.Usage fault) = ⊥
IsFileFault before now name (F.BadName fault) = ⊥
IsFileFault before now name (F.NoSuchLog missing) = (missing ≡ name) × Told now (λ folder. folder name ≡ None)
IsFileFault before now name (F.Query fault) = IsLengthFault before now name fault
IsFileFault before now name F.Logs = ⊤
IsFileFault before now name F.Memory = ⊤

-- why the text of a query word isn't read
abbrev pub IsTextFault : Option Folder → Option Folder → List ℕ → RequestFault → Type 0
IsTextFault before now word (F.Usage fault) = ⊥
IsTextFault before now word (F.BadName fault) = (name : List ℕ) × (file_in word ≡ Some name) × (name_fault name ≡ Some fault)
IsTextFault before now word (F.NoSuchLog name) = (file_in word ≡ Some name) × (name_fault name ≡ None) × Told now (λ folder. folder name ≡ None)
IsTextFault before now word (F.Query fault) = (text : List ℕ) × HoldsText before now word text × IsQueryFault text fault
IsTextFault before now word F.Logs = ⊤
IsTextFault before now word F.Memory = ⊤
