-- What a run was asked, with what the subqueries of its query gave.
use Rattle.std.specs.Prelude.{List, Option}
use Rattle.grammar.specs.Filled.{PlacedGiven, filled}
use Rattle.lp_model.specs.Outside.{Folder}
use Rattle.lp_values.specs.declared.value.Value.{Value}
use Rattle.run_entry.specs.Giving.{GiveThese}
use Rattle.run_entry.specs.Entries.{Request}

-- what was asked, its query with what its subqueries gave
abbrev pub filled_request : List PlacedGiven → Request → Request
filled_request givens request = record { spec = request.spec; q = filled givens request.q; text = request.text; template = request.template; moment = request.moment }

-- subqueries of what was asked gave something between two moments, and with it this is so
pub record IsBehind (Is : Request → Type 0) (before now : Option Folder) (request : Request) : Type 0 where
  pub givens : List PlacedGiven
  pub lists : List (List Value)
  pub give : GiveThese request.spec request.moment before now request.q givens lists
  pub is : Is (filled_request givens request)
