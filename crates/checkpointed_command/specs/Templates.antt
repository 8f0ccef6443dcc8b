-- The template of a run: the bytes of the file that `-tpl` names.
use Rattle.std.specs.Prelude.{◌≡◌, ℕ, List, [], Option, Some}
use Rattle.grammar.specs.Trees as model
use Rattle.lp_model.specs.Outside.{Folder, Told}
use Rattle.command_words.specs.declared.formats.OutputFormat.{OutputFormat}
use Rattle.command_words.specs.declared.formats.OutputFormat.TheVariants as O
use Rattle.command_words.specs.declared.spec.Spec.{Spec}
use Rattle.checkpointed_run.specs.Texts.{output_of}
use Rattle.checkpointed_run.specs.Gives.{HasTemplate}
use Rattle.requests.specs.Templates.{IsNoTemplate}
use Rattle.requests.specs.Texts.{IsCut}
use Rattle.requests.specs.declared.fault.NoTemplate.{NoTemplate}
use Rattle.tpl_output.specs.Sections.{Sections}

-- these are the bytes of the file that `-tpl` names, up to a cut
pub record IsFileCut (before now : Option Folder) (spec : Spec) (bytes : List ℕ) : Type 0 where
  pub name : List ℕ
  pub named : spec.tpl ≡ Some name
  pub cut : Told now (λ folder. IsCut before folder name bytes)

-- the bytes of the template of an output: of the file, or none where the output is by none
abbrev pub AreBytesFor : OutputFormat → Option Folder → Option Folder → Spec → List ℕ → Type 0
AreBytesFor O.Nat before now spec bytes = bytes ≡ []
AreBytesFor O.Csv before now spec bytes = bytes ≡ []
AreBytesFor O.Tsv before now spec bytes = bytes ≡ []
AreBytesFor O.W3c before now spec bytes = bytes ≡ []
AreBytesFor O.Tpl before now spec bytes = IsFileCut before now spec bytes

-- these are the bytes and the sections of the template of a run
pub record FindsTemplate (before now : Option Folder) (spec : Spec) (q : model.Query) (bytes : List ℕ) (template : Sections) : Type 0 where
  pub sections : HasTemplate spec q bytes template
  pub bytes_are : AreBytesFor (output_of spec q) before now spec bytes

-- the output is by a template, and the file that `-tpl` names holds none
pub record HoldsNone (before now : Option Folder) (spec : Spec) (q : model.Query) (fault : NoTemplate) : Type 0 where
  pub output : output_of spec q ≡ O.Tpl
  pub name : List ℕ
  pub named : spec.tpl ≡ Some name
  pub why : IsNoTemplate before now name fault
