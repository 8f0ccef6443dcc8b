-- A run over a ledger that came to counts, whatever world it ran in.
use Rattle.std.specs.Prelude.{◌≡◌, ℕ, List, Option, None}
use Rattle.std.specs.Bool.{⊤}
use Rattle.commit.specs.declared.phases.Commit.{Commit}
use Rattle.disk_model.specs.Disk.{DiskState}
use Rattle.log_reading.specs.declared.span.Span.{Span}
use Rattle.log_reading.specs.declared.span.Took.{Took}
use Rattle.grammar.specs.Filled.{PlacedGiven}
use Rattle.lp_model.specs.Outside.{Folder, OnlyGrow}
use Rattle.lp_values.specs.declared.value.Value.{Value}
use Rattle.query_run.specs.declared.executing.Counts.{Counts}
use Rattle.run_entry.specs.Giving.{GiveThese}
use Rattle.run_entry.specs.Entries.{Request}
use Rattle.run_model.specs.Logs.{Rotation}
use Rattle.text_output.specs.declared.target.Output.{Output}
use Rattle.tpl_output.specs.Sections.{Sections}
use Rattle.checkpointed_run.specs.Begun.{HasSpans}
use Rattle.checkpointed_run.specs.Carried.{IsCarriedOut}
use Rattle.checkpointed_run.specs.Clash.{first_clash}
use Rattle.checkpointed_run.specs.Filled.{filled_request}

-- the logs behind FROM have spans, none of them is the ledger or the stage, the subqueries gave what they had, and the query was carried
-- out with it over the spans, with these counts
pub record HasRun {D : Type 0} (state : D → DiskState) (disk : DiskState) (ledger stage : List ℕ) (rotation : Rotation) (input : List ℕ) (texts : List (List ℕ)) (request : Request) (template : Sections) (before now : Option Folder) (counts : Counts) : Type 0 where
  pub listed : Option Folder
  pub grows : OnlyGrow listed now
  pub spans : List Span
  pub has : HasSpans disk ledger rotation input texts before listed spans
  pub free : first_clash ledger stage spans ≡ None
  pub started : Commit D
  pub staged : Commit D
  pub took : List Took
  pub outputs : List Output
  pub givens : List PlacedGiven
  pub lists : List (List Value)
  pub give : GiveThese request.spec request.moment listed now request.q givens lists
  pub carried : IsCarriedOut state (λ commit name base mark. ⊤) (filled_request givens request) template now spans started staged took outputs counts
