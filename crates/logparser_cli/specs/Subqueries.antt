-- What an answer says of the subqueries of a query, which are run behind the listing of its logs.
use Rattle.std.specs.Prelude.{◌≡◌, ℤ, List, [], ◌∷◌, Option, ⊤}
use Rattle.lp_values.specs.declared.value.Value.{Value}
use Rattle.grammar.specs.Filled.{PlacedGiven, filled}
use Rattle.grammar.specs.Trees as model
use Rattle.lp_model.specs.Outside.{Folder, OnlyGrow, Rose}
pub use Rattle.checkpointed_command.specs.Statuses.{ungiven}
use Rattle.command_words.specs.declared.spec.Spec.{Spec}
use Rattle.reports.specs.declared.status.Status.{Status}
use Rattle.reports.specs.declared.status.Status.TheVariants as S
use Rattle.checkpointed_command.specs.SubqueryFault.{SubqueryFault}
use Rattle.checkpointed_command.specs.SubqueryFault.TheVariants as F
use Rattle.checkpointed_command.specs.Giving.{GiveThese, subqueries_of}
use Rattle.checkpointed_command.specs.Refusing.{StopsBy}
use Rattle.log_listing.specs.declared.lengths.NameLength.{NameLength}
use Rattle.logparser_cli.specs.Logs.{AreLogs, IsUnlisted}
use Rattle.logparser_cli.specs.Outputs.{World, IsUnwritten}

-- without a checkpoint no log is one that the run keeps for itself
abbrev pub IsPlainFault : SubqueryFault → Type 0
IsPlainFault (F.BadName fault) = ⊤
IsPlainFault (F.NoSuchLog name) = ⊤
IsPlainFault F.TooManyLogs = ⊤
IsPlainFault (F.Clash name) = ⊥
IsPlainFault (F.Plan fault) = ⊤
IsPlainFault (F.Bad log row) = ⊤
IsPlainFault F.Logs = ⊤
IsPlainFault F.Memory = ⊤

-- a query is another one with what its subqueries gave
pub record IsFilled (spec : Spec) (moment : ℤ) (before now : Option Folder) (q whole : model.Query) : Type 0 where
  pub givens : List PlacedGiven
  pub lists : List (List Value)
  pub give : GiveThese spec moment before now q givens lists
  pub whole_is : whole ≡ filled givens q

-- a subquery of a query is refused, and this is the answer
pub record IsRefusedAs (spec : Spec) (moment : ℤ) (before now : Option Folder) (q : model.Query) (status : Status) : Type 0 where
  pub fault : SubqueryFault
  pub status_is : status ≡ ungiven fault
  pub stops : StopsBy spec moment before now q fault

-- what a query reads was listed between two moments: the logs of its FROM names, and of standard input nothing
pub record IsListed (before now : Option Folder) (q : model.Query) : Type 0 where
  pub logs : List NameLength
  pub are_logs : AreLogs before now q logs

-- what a query with subqueries reads is listed before these are run
abbrev pub IsListedFirst : List model.Query → Option Folder → Option Folder → model.Query → Type 0
IsListedFirst [] before now q = ⊤
IsListedFirst (first ∷ rest) before now q = IsListed before now q

-- what a query reads was listed, behind that a subquery of it is refused, and this is the answer
pub record IsRefusedBehind (spec : Spec) (moment : ℤ) (before now : Option Folder) (q : model.Query) (status : Status) : Type 0 where
  pub listed : Option Folder
  pub first : IsListedFirst (subqueries_of q) before listed q
  pub grew : OnlyGrow before listed
  pub grows : OnlyGrow listed now
  pub refused : IsRefusedAs spec moment listed now q status

-- the logs of the query aren't listed, and nothing was written
pub record IsUnlistedRun (old new : World) (q : model.Query) (status : Status) : Type 0 where
  pub unlisted : IsUnlisted new.folder q status
  pub unwritten : IsUnwritten old.held new.held
  pub rose : status ≡ S.LogsFault → Rose old.logs_faults new.logs_faults

-- behind the listing of what the query reads a subquery is refused, and nothing was written
pub record IsUngiven (old new : World) (spec : Spec) (moment : ℤ) (q : model.Query) (status : Status) : Type 0 where
  pub refused : IsRefusedBehind spec moment old.folder new.folder q status
  pub unwritten : IsUnwritten old.held new.held
  pub rose : status ≡ S.LogsFault → Rose old.logs_faults new.logs_faults
