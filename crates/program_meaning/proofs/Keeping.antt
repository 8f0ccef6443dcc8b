-- What subqueries gave between two moments they gave between an earlier and a later one.
use Rattle.std.proofs.Common.{ℤ, List, Option}
use Rattle.grammar.specs.Filled.{PlacedGiven, asked_places}
use Rattle.grammar.specs.Trees.{Query}
use Rattle.lp_model.specs.Outside.{Folder, OnlyGrow}
use Rattle.lp_values.specs.declared.value.Value.{Value}
use Rattle.command_words.specs.declared.spec.Spec.{Spec}
use Rattle.subqueries.specs.Formats.{log_format}
use Rattle.subqueries.specs.Giving.{GiveThese, subqueries_of}
use Rattle.subqueries.proofs.Gave.{all_earlier, all_later}

module _ (spec : Spec) (moment : ℤ) (q : Query) (givens : List PlacedGiven) (lists : List (List Value)) where
  pub give_wider : (early before now late : Option Folder) → OnlyGrow early before → OnlyGrow now late → GiveThese spec moment before now q givens lists → GiveThese spec moment early late q givens lists
  give_wider early before now late front back give =
      all_later (log_format spec q) spec moment early now late (subqueries_of q) (asked_places q) givens lists back
      (all_earlier (log_format spec q) spec moment early before now (subqueries_of q) (asked_places q) givens lists front give)
