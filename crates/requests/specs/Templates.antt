-- What a template's file holds.
use Rattle.std.specs.Prelude.{◌≡◌, ℕ, List, Option, None, ⊤}
use Rattle.lp_model.specs.Outside.{Folder, Told}
use Rattle.tpl_output.specs.Sections.{Sections, IsFaultOf, fault_of, sections_of}
use Rattle.tpl_output.specs.declared.fault.TemplateFault.{TemplateFault}
use Rattle.tpl_output.specs.declared.fault.TemplateFault.TheVariants as T
use Rattle.requests.specs.Texts.{IsCut}
use Rattle.requests.specs.declared.fault.NoTemplate.{NoTemplate}
use Rattle.requests.specs.declared.fault.NoTemplate.TheVariants as N

-- a file's bytes up to a cut are a template of these sections
pub record HoldsTemplate (before now : Option Folder) (name : List ℕ) (sections : Sections) : Type 0 where
  pub text : List ℕ
  pub holds : Told now (λ folder. IsCut before folder name text)
  pub good : fault_of text ≡ None
  pub sections_are : sections ≡ sections_of text

-- a file's bytes up to a cut are no template, by this fault
pub record HoldsFault (before now : Option Folder) (name : List ℕ) (fault : TemplateFault) : Type 0 where
  pub text : List ℕ
  pub holds : Told now (λ folder. IsCut before folder name text)
  pub fault_is : IsFaultOf text fault
  pub known : ¬ (fault ≡ T.Memory)

-- why a file isn't read
abbrev pub IsUnread : Option Folder → List ℕ → NoTemplate → Type 0
IsUnread now name (N.NoSuchLog missing) = (missing ≡ name) × Told now (λ folder. folder name ≡ None)
IsUnread now name (N.Fault fault) = ⊥
IsUnread now name N.Logs = ⊤
IsUnread now name N.Memory = ⊤

-- why a file is no template: it isn't there, or its bytes are none
abbrev pub IsNoTemplate : Option Folder → Option Folder → List ℕ → NoTemplate → Type 0
IsNoTemplate before now name (N.NoSuchLog missing) = (missing ≡ name) × Told now (λ folder. folder name ≡ None)
IsNoTemplate before now name (N.Fault fault) = HoldsFault before now name fault
IsNoTemplate before now name N.Logs = ⊤
IsNoTemplate before now name N.Memory = ⊤
