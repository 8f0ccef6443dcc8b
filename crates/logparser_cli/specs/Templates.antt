-- The template of a run.
use Rattle.std.specs.Prelude.{◌≡◌, ℕ, List, Option, Some, None, ⊤}
use Rattle.grammar.specs.Trees as model
use Rattle.lp_model.specs.Outside.{Folder, Told}
use Rattle.command_words.specs.declared.formats.OutputFormat.TheVariants as O
use Rattle.command_words.specs.declared.spec.Spec.{Spec}
use Rattle.checkpointed_command.specs.Texts.{output_of}
use Rattle.requests.specs.Templates.{HoldsTemplate, HoldsFault}
use Rattle.reports.specs.declared.status.Status.{Status}
use Rattle.reports.specs.declared.status.Status.TheVariants.{Done, Memory, Clock, Usage, Query, NoSuchLog, BadName, NameClash, TooManyOutputs, TooManyLogs, Template, InputTooLong, LogsFault, SourceFault, DiskFault, SinkFault, ParseErrors, LostLog, Shrunk, InputChanged, IntoNeeded, LedgerFault}
use Rattle.tpl_output.specs.Sections.{Sections}

-- the file that `-tpl` names holds a template of these sections
pub record IsNamed (before now : Option Folder) (spec : Spec) (template : Sections) : Type 0 where
  pub name : List ℕ
  pub named : spec.tpl ≡ Some name
  pub holds : HoldsTemplate before now name template

-- this is the template of a run, if its output is by one; no other output has one
abbrev pub IsTemplate : Option Folder → Option Folder → Spec → model.Query → Sections → Type 0
IsTemplate before now spec q template = output_of spec q ≡ O.Tpl → IsNamed before now spec template

-- why a file gives no template
abbrev pub IsUntemplated : Option Folder → Option Folder → List ℕ → Status → Type 0
IsUntemplated before now name Done = ⊥
IsUntemplated before now name Memory = ⊤
IsUntemplated before now name (Clock at) = ⊥
IsUntemplated before now name (Usage fault) = ⊥
IsUntemplated before now name (Query fault) = ⊥
IsUntemplated before now name (NoSuchLog missing) = (missing ≡ name) × Told now (λ folder. folder name ≡ None)
IsUntemplated before now name (BadName fault) = ⊥
IsUntemplated before now name (NameClash clash) = ⊥
IsUntemplated before now name TooManyOutputs = ⊥
IsUntemplated before now name TooManyLogs = ⊥
IsUntemplated before now name (Template fault) = HoldsFault before now name fault
IsUntemplated before now name InputTooLong = ⊥
IsUntemplated before now name LogsFault = ⊤
IsUntemplated before now name SourceFault = ⊥
IsUntemplated before now name DiskFault = ⊥
IsUntemplated before now name SinkFault = ⊥
IsUntemplated before now name (ParseErrors log row) = ⊥
IsUntemplated before now name (LostLog stem number) = ⊥
IsUntemplated before now name (Shrunk lost kept found) = ⊥
IsUntemplated before now name (InputChanged kept given) = ⊥
IsUntemplated before now name IntoNeeded = ⊥
IsUntemplated before now name (LedgerFault part place) = ⊥

-- a run whose output is by a template has none
pub record IsWithoutTemplate (before now : Option Folder) (spec : Spec) (q : model.Query) (status : Status) : Type 0 where
  pub output : output_of spec q ≡ O.Tpl
  pub name : List ℕ
  pub named : spec.tpl ≡ Some name
  pub refused : IsUntemplated before now name status
