-- How many bytes subqueries read.
use Rattle.std.specs.Prelude.{◌≡◌, ◌⊎◌, ℕ, ℤ, List, [], ◌∷◌, ◌++◌, Option}
use Rattle.grammar.specs.Filled.{asked_places}
use Rattle.grammar.specs.Trees.{Query}
use Rattle.lp_model.specs.Outside.{Folder}
use Rattle.command_words.specs.declared.spec.Spec.{Spec}
use Rattle.execution.specs.declared.formats.LogFormat.{LogFormat}
use Rattle.execution.specs.Formats.{log_format}
use Rattle.log_listing.specs.Listed.{Lists}
use Rattle.requests.specs.Given.{ReadsOnce}
use Rattle.subqueries.specs.declared.fault.SubqueryFault.TheVariants as F
use Rattle.subqueries.specs.Giving.{subqueries_of}
use Rattle.subqueries.specs.Listing.{from_names}
use Rattle.subqueries.specs.Refusing.{IsUngivenIn}

-- these are the logs of the FROM names, or none
abbrev pub AreRead : Option Folder → Query → List (List ℕ) → Type 0
AreRead now q logs = (logs ≡ []) ⊎ Lists now (from_names q) logs

-- the logs of one query, and those of others behind it
pub record ReadsBoth (Rest : List (List ℕ) → Type 0) (now : Option Folder) (q : Query) (logs : List (List ℕ)) : Type 0 where
  pub own : List (List ℕ)
  pub others : List (List ℕ)
  pub are_read : AreRead now q own
  pub rest : Rest others
  pub logs_are : logs ≡ own ++ others

-- these are the logs that queries read, one after the other
abbrev pub AllRead : Option Folder → List Query → List (List ℕ) → Type 0
AllRead now [] logs = logs ≡ []
AllRead now (q ∷ qs) logs = ReadsBoth (AllRead now qs) now q logs

-- no more was read than the logs of a query, each once
pub record ReadsOne (now : Option Folder) (q : Query) (before later : ℕ) : Type 0 where
  pub logs : List (List ℕ)
  pub are_read : AreRead now q logs
  pub once : ReadsOnce now logs before later

-- no more than those of queries, each once for each of them
pub record ReadsAll (now : Option Folder) (qs : List Query) (before later : ℕ) : Type 0 where
  pub logs : List (List ℕ)
  pub are_read : AllRead now qs logs
  pub once : ReadsOnce now logs before later

-- all stops at a log that the run keeps for itself: no more was read than the logs of the queries in front of the one that lists it
pub record ClashesBehind (format : LogFormat) (spec : Spec) (moment : ℤ) (before now : Option Folder) (qs : List Query) (places : List ℕ) (bad : ℕ) (name : List ℕ) (given later : ℕ) : Type 0 where
  pub ungiven : IsUngivenIn format spec moment before now qs places bad (F.Clash name)
  pub reads : ReadsAll now ungiven.front given later

-- the same of the subqueries of a query
abbrev pub ClashesBy : Spec → ℤ → Option Folder → Option Folder → Query → List ℕ → ℕ → ℕ → Type 0
ClashesBy spec moment before now q name given later = ClashesBehind (log_format spec q) spec moment before now (subqueries_of q) (asked_places q) 0 name given later
