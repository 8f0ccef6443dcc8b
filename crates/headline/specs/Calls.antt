-- Calls of the program as events of a world.
use Rattle.std.specs.Prelude.{◌≡◌, ◌⊎◌, ℕ, ℤ, List, [], ◌∷◌, Option, Some, Result, Ok, IfErr}
use Rattle.std.specs.Bool.{⊤}
use Rattle.command_words.specs.Table.{IsAsked, checkpoint_of, template_of}
use Rattle.command_words.specs.Usage.{AreFine}
use Rattle.command_words.specs.Words.{options_in, query_in}
use Rattle.command_words.specs.declared.spec.Spec.{Spec}
use Rattle.logparser_cli.specs.CheckpointedCommandAsked.{IsAskedWhole}
use Rattle.logparser_cli.specs.Refusals.{IsCallRefused}
use Rattle.logparser_cli.specs.Steps.{ending_by, TakesSteps}
use Rattle.disk_model.specs.Disk.{Files, DiskState}
use Rattle.logparser_cli.specs.Executed.{IsMoment}
use Rattle.logparser_cli.specs.Kept.{answer_of, stage_beside}
use Rattle.lp_model.specs.Outside.{Folder, Told}
use Rattle.logparser_cli.specs.Meaning.{meaning}
use Rattle.query_run.specs.declared.executing.Counts.{Counts}
use Rattle.reports.specs.declared.status.Status.{Status}
use Rattle.reports.specs.declared.status.Status.TheVariants as S
use Rattle.requests.specs.Texts.{HoldsText, IsCut}
use Rattle.run_model.specs.Logs.{Logs}
use Rattle.run_model.specs.Meanings.{Asked}
use Rattle.run_model.specs.Steps.{Setting, Gain, IsOfCall, AreNames}
use Rattle.worlds.specs.Events.{IsStoppedAt, Runs, StopsIn}
use Rattle.worlds.specs.Events as worlds
use Rattle.worlds.specs.Worlds.{World, Begins}

-- these are the bytes of the file that `-tpl` names, up to a cut
pub record IsTemplateCut (before now : Option Folder) (words : List (List ℕ)) (bytes : List ℕ) : Type 0 where
  pub name : List ℕ
  pub named : template_of words ≡ Some name
  pub cut : Told now (λ folder. IsCut before folder name bytes)

-- what words ask at a moment, as far as it was read: the options and the moment, and the texts of the query and the template or nothing
pub record IsAskedByWords (before now : Option Folder) (words : List (List ℕ)) (moment : ℤ) (asked : Asked) : Type 0 where
  pub words_are : asked.words ≡ options_in words
  pub moment_is : asked.moment ≡ moment
  pub query : (asked.query ≡ []) ⊎ HoldsText before now (query_in words) asked.query
  pub template : (asked.template ≡ []) ⊎ IsTemplateCut before now words asked.template

-- whatever of its query and its template a call comes to read, its names are those of the world
abbrev pub NamesAre : Setting → List (List ℕ) → ℤ → Logs → Logs → DiskState → Type 0
NamesAre setting words moment before after disk = (asked : Asked) → IsAskedByWords (Some before.folder) (Some after.folder) words moment asked → AreNames meaning setting asked before disk

-- a call takes a step over the ledger, by the options that its words ask for; where it comes to no counts, this is why
pub record CallSteps {D : Type 0} (state : D → DiskState) (setting : Setting) (words : List (List ℕ)) (moment : ℤ) (status : Status) (before after : Logs) (old new : D) : Type 0 where
  pub spec : Spec
  pub options : IsAsked words spec
  pub result : Result Counts Status
  pub status_is : status ≡ answer_of result
  pub steps : TakesSteps spec setting.ledger setting.stage moment (Some before.folder) (Some after.folder) (state old) (state new) result
  pub refused : IfErr result (IsCallRefused state old setting.ledger setting.stage (Some before.folder) (Some after.folder) spec moment)
  pub done : status ≡ S.Done → (counts : Counts) × (result ≡ Ok counts)

-- a call by words that are fine is refused before it reads them for its moment, as it is none, or as memory is wanted
abbrev pub IsUnbegun : ℤ → Status → Type 0
IsUnbegun moment (S.Clock at) = (at ≡ moment) × ¬ IsMoment moment
IsUnbegun moment S.Memory = ⊤
IsUnbegun moment other = ⊥

-- A call by words that are fine and name the world's ledger, at a moment, with its answer: it may be refused before its words are read,
-- and has left the disk alone then, or it takes its step.
pub record Called {D : Type 0} (state : D → DiskState) (setting : Setting) (words : List (List ℕ)) (moment : ℤ) (status : Status) (before after : Logs) (old new : D) : Type 0 where
  pub fine : AreFine words
  pub ledger_is : checkpoint_of words ≡ Some setting.ledger
  pub stage_is : setting.stage ≡ stage_beside setting.ledger
  pub gain : Gain setting.rotation setting.parting before after
  pub names_are : NamesAre setting words moment before after (state old)
  pub does : IsUnbegun moment status × (new ≡ old) ⊎ CallSteps state setting words moment status before after old new

-- a call is one of each world whose ledger its words name, and whose logs these are before and behind it
abbrev pub IsCall : {D : Type 0} → (D → DiskState) → List (List ℕ) → ℤ → Status → Option Folder → Option Folder → D → D → Type 0
IsCall state words moment status told now old new =
    (setting : Setting) (before after : Logs) → told ≡ Some before.folder → now ≡ Some after.folder → AreFine words → checkpoint_of words ≡ Some setting.ledger → setting.stage ≡ stage_beside setting.ledger
    → Gain setting.rotation setting.parting before after → NamesAre setting words moment before after (state old) → Called state setting words moment status before after old new

-- a call that the machine doesn't end: what it would have done and answered, up to an image of some moment
pub record CallStopped {D : Type 0} (state : D → DiskState) (setting : Setting) (words : List (List ℕ)) (moment : ℤ) (status : Status) (before after : Logs) (old new : D) : Type 0 where
  pub whole : D
  pub called : Called state setting words moment status before after old whole
  pub image : Files
  pub of_call : IsOfCall (state old) (state whole) image
  pub stopped : IsStoppedAt image (state new)

-- all that words ask was read: the query and the template that they name
abbrev pub IsReadWhole : Option Folder → Option Folder → List (List ℕ) → Asked → Type 0
IsReadWhole before now words asked = (spec : Spec) × IsAsked words spec × IsAskedWhole before now spec asked

-- a call is a run of what its words ask, all of which was read where it is whole, and ends as its answer says
pub record IsRun {D : Type 0} (state : D → DiskState) (setting : Setting) (words : List (List ℕ)) (moment : ℤ) (status : Status) (before after : Logs) (old new : D) : Type 0 where
  pub asked : Asked
  pub is_asked : IsAskedByWords (Some before.folder) (Some after.folder) words moment asked
  pub runs : Runs meaning setting asked (ending_by status) before after (state old) (state new)
  pub whole : status ≡ S.Done → IsReadWhole (Some before.folder) (Some after.folder) words asked

-- and so is one that is stopped
pub record IsStoppedRun {D : Type 0} (state : D → DiskState) (setting : Setting) (words : List (List ℕ)) (moment : ℤ) (status : Status) (before after : Logs) (old new : D) : Type 0 where
  pub asked : Asked
  pub is_asked : IsAskedByWords (Some before.folder) (Some after.folder) words moment asked
  pub stops : StopsIn state meaning setting asked (ending_by status) before after old new

pub data CallEvent : Type 0 where
  append : (name bytes : List ℕ) → CallEvent
  appear : (name : List ℕ) → CallEvent
  rotate : (stem : List ℕ) → CallEvent
  remove : (name : List ℕ) → CallEvent
  change_others : CallEvent
  -- a call by these words at a moment, and its answer
  call : (words : List (List ℕ)) (moment : ℤ) (status : Status) → CallEvent
  -- the machine stops within a call, or between two
  stop_in_call : (words : List (List ℕ)) (moment : ℤ) (status : Status) → CallEvent
  stop : CallEvent

-- an event leads from one world to another
abbrev pub Happens : {D : Type 0} → (D → DiskState) → Setting → World D → CallEvent → World D → Type 0
Happens state setting old (append name bytes) new = worlds.Happens state meaning setting old (worlds.append name bytes) new
Happens state setting old (appear name) new = worlds.Happens state meaning setting old (worlds.appear name) new
Happens state setting old (rotate stem) new = worlds.Happens state meaning setting old (worlds.rotate stem) new
Happens state setting old (remove name) new = worlds.Happens state meaning setting old (worlds.remove name) new
Happens state setting old change_others new = worlds.Happens state meaning setting old worlds.change_others new
Happens state setting old (call words moment status) new = Called state setting words moment status old.logs new.logs old.disk new.disk
Happens state setting old (stop_in_call words moment status) new = CallStopped state setting words moment status old.logs new.logs old.disk new.disk
Happens state setting old stop new = worlds.Happens state meaning setting old worlds.stop new

-- a list of events leads from one world to another
abbrev pub Leads : {D : Type 0} → (D → DiskState) → Setting → World D → List CallEvent → World D → Type 0
Leads state setting old [] new = new ≡ old
Leads state setting old (event ∷ events) new = (next : World _) × Happens state setting old event next × Leads state setting next events new

-- a world that some events lead to from a world that begins
pub record IsReached {D : Type 0} (state : D → DiskState) (setting : Setting) (events : List CallEvent) (world : World D) : Type 0 where
  pub first : World D
  pub begins : Begins setting first.logs (state first.disk)
  pub leads : Leads state setting first events world
