-- Which files a run reads beside its logs, and how many bytes.
use Rattle.std.specs.Prelude.{◌⊎◌, ℕ, List, [], ◌++◌, map, Option}
use Rattle.disk_model.specs.Disk.{DiskState}
use Rattle.grammar.specs.Trees as model
use Rattle.ledger_model.specs.Inputs.{input_text}
use Rattle.lp_model.specs.Outside.{Folder, OnlyGrow}
use Rattle.command_words.specs.declared.formats.OutputFormat.{OutputFormat}
use Rattle.command_words.specs.declared.formats.OutputFormat.TheVariants as O
use Rattle.command_words.specs.declared.spec.Spec.{Spec}
use Rattle.checkpointed_run.specs.Texts.{output_of}
use Rattle.positions.specs.Spanning.{rule_of}
use Rattle.checkpointed_run.specs.Inputs.{input_for}
use Rattle.query_text.specs.Stdin.{names_in}
use Rattle.requests.specs.Given.{ReadsOnce, file_names, query_files}
use Rattle.requests.specs.Texts.{HoldsQuery}
use Rattle.checkpointed_run.specs.Begun.{GivesSpans}
use Rattle.checkpointed_command.specs.Refusals.{IsSettledBy}

-- the file of the template, where the output is by one
abbrev pub template_for : OutputFormat → Option (List ℕ) → List (List ℕ)
template_for O.Nat name = []
template_for O.Csv name = []
template_for O.Tsv name = []
template_for O.W3c name = []
template_for O.Tpl name = file_names name

abbrev pub template_files : Spec → model.Query → List (List ℕ)
template_files spec q = template_for (output_of spec q) spec.tpl

-- the query was read, and no more than its file, its template, the logs of its subqueries and what its logs have behind their kept places
pub record ReadsBehind (disk : DiskState) (ledger stage : List ℕ) (before now : Option Folder) (spec : Spec) (given later : ℕ) : Type 0 where
  pub text : List ℕ
  pub q : model.Query
  pub query : HoldsQuery before now spec.query text q
  pub began : Option Folder
  pub since : OnlyGrow before began
  pub between : ℕ
  pub files : ReadsOnce now (query_files spec.query ++ template_files spec q) given between
  pub logs : GivesSpans disk ledger stage (rule_of spec.rotation) (input_text (input_for spec q)) (map (λ name. name.text) (names_in q)) q began now between later

-- No more is read than the query's file, and behind a settled disk than its template, the logs of its subqueries and what stands in its
-- logs behind their kept places.
abbrev pub ReadsKept : {D : Type 0} → (D → DiskState) → D → List ℕ → List ℕ → Option Folder → Option Folder → Spec → ℕ → ℕ → Type 0
ReadsKept state old ledger stage before now spec given later =
    ReadsOnce now (query_files spec.query) given later ⊎ ((settled : _) × IsSettledBy (state old) (state settled) ledger stage × ReadsBehind (state settled) ledger stage before now spec given later)
