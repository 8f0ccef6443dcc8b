-- What a run with a checkpoint is asked, and whether it can be done.
use Rattle.std.specs.Prelude.{◌≡◌, ◌⊎◌, ℕ, ℤ, true, false, if◌then◌else◌, List, [], ◌∷◌, Option, Some, None}
use Rattle.grammar.specs.Trees.{Placed, Query}
use Rattle.lp_model.specs.Outside.{Folder}
use Rattle.command_words.specs.declared.spec.Spec.{Spec}
use Rattle.checkpointed_run.specs.Outputs.{is_standard}
use Rattle.checkpointed_run.specs.Texts.{into_in}
use Rattle.query_text.specs.Stdin.{is_stdin, names_in}
use Rattle.query_text.specs.declared.fault.QueryFault.TheVariants as Q
use Rattle.reports.specs.declared.status.Status.{Status}
use Rattle.reports.specs.declared.status.Status.TheVariants as S
use Rattle.requests.specs.Texts.{HoldsQuery, HoldsText}
use Rattle.run_model.specs.Meanings.{Asked}
use Rattle.tpl_output.specs.Sections.{Sections}
use Rattle.checkpointed_command.specs.Templates.{FindsTemplate, IsFileCut}

-- the place of STDIN where it is the only name; beside another one, and in a subquery, no query has it
abbrev pub stdin_alone : List Placed → Option ℕ
stdin_alone [] = None
stdin_alone (name ∷ []) = if is_stdin name.text then Some name.at else None
stdin_alone (name ∷ next ∷ names) = None

-- a query that may run with a checkpoint: over files, into files
pub record IsFit (q : Query) : Type 0 where
  pub over_files : stdin_alone (names_in q) ≡ None
  pub into_files : is_standard (into_in q) ≡ false

-- why it may not, the first reason first
abbrev pub IsUnfit : Query → Status → Type 0
IsUnfit q status =
    ((at : ℕ) × (stdin_alone (names_in q) ≡ Some at) × (status ≡ S.Query (Q.StdinMisplaced at)))
    ⊎ ((stdin_alone (names_in q) ≡ None) × (is_standard (into_in q) ≡ true) × (status ≡ S.IntoNeeded))

-- all that comes before the logs: the query was read, it may run, and so is its template
pub record IsPrepared (before now : Option Folder) (spec : Spec) (text : List ℕ) (q : Query) (bytes : List ℕ) (template : Sections) : Type 0 where
  pub query : HoldsQuery before now spec.query text q
  pub fit : IsFit q
  pub finds : FindsTemplate before now spec q bytes template

-- what was asked, as far as it was read: the options and the moment, and the texts of the query and the template or nothing
pub record IsAskedBy (before now : Option Folder) (spec : Spec) (moment : ℤ) (asked : Asked) : Type 0 where
  pub words : asked.words ≡ spec.words
  pub moment_is : asked.moment ≡ moment
  pub query : (asked.query ≡ []) ⊎ HoldsText before now spec.query asked.query
  pub template : (asked.template ≡ []) ⊎ IsFileCut before now spec asked.template

-- all of what was asked was read
pub record IsAskedWhole (before now : Option Folder) (spec : Spec) (asked : Asked) : Type 0 where
  pub q : Query
  pub sections : Sections
  pub prepared : IsPrepared before now spec asked.query q asked.template sections
