-- How many bytes of files a run reads.
use Rattle.std.specs.Prelude.{◌⊎◌, ℕ, List, [], ◌∷◌, ◌++◌, Option}
use Rattle.grammar.specs.Trees as model
use Rattle.lp_model.specs.Outside.{Folder}
use Rattle.command_words.specs.declared.spec.Spec.{Spec}
use Rattle.command_words.specs.Words.{query_in}
use Rattle.checkpointed_command.specs.Giving.{subqueries_of}
use Rattle.checkpointed_command.specs.SubqueriesReading.{AllRead}
use Rattle.checkpointed_command.specs.SubqueriesReading.{AreRead as AreOwn}
use Rattle.requests.specs.Given.{ReadsOnce, query_files}
use Rattle.requests.specs.Requests.{Asks}
use Rattle.checkpointed_command.specs.Given.{template_files}

-- the logs of the subqueries of a query, and then its own
abbrev pub AreRead : Option Folder → model.Query → List (List ℕ) → Type 0
AreRead now q logs = AllRead now (subqueries_of q ++ q ∷ []) logs

-- no more is read than the logs of a query, each once
pub record ReadsLogs (now : Option Folder) (q : model.Query) (before later : ℕ) : Type 0 where
  pub logs : List (List ℕ)
  pub are_read : AreOwn now q logs
  pub once : ReadsOnce now logs before later

-- no more is read than its template, the logs of its subqueries and its own
pub record ReadsQuery (now : Option Folder) (spec : Spec) (q : model.Query) (before later : ℕ) : Type 0 where
  pub logs : List (List ℕ)
  pub are_read : AreRead now q logs
  pub once : ReadsOnce now (template_files spec q ++ logs) before later

-- the words ask for a query, and no more is read than its file, its template, the logs of its subqueries and its own
pub record ReadsAsked (old now : Option Folder) (words : List (List ℕ)) (before later : ℕ) : Type 0 where
  pub spec : Spec
  pub q : model.Query
  pub asks : Asks old now words spec q
  pub logs : List (List ℕ)
  pub are_read : AreRead now q logs
  pub once : ReadsOnce now (query_files (query_in words) ++ (template_files spec q ++ logs)) before later

-- A run of words reads no more than the query's file, the template and the logs, each once for each query that reads it; before the words ask for a query it
-- reads no more than the query's file.
abbrev pub ReadsWords : Option Folder → Option Folder → List (List ℕ) → ℕ → ℕ → Type 0
ReadsWords old now words before later = ReadsOnce now (query_files (query_in words)) before later ⊎ ReadsAsked old now words before later
