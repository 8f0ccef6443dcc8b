use Rattle.std.proofs.Common.{◌∙◌, List, ap, map, FitsSigned, w64}
use Rattle.std.proofs.lemmas.Int.{to_z-of_z}
use Rattle.grammar.specs.Filled.{filled}
use Rattle.query_tree.specs.Views.{placed_given, query_of}
use Rattle.query_tree.specs.declared.given.PlacedGiven.{PlacedGiven}
use Rattle.checkpointed_run.proofs.giving.give_lists.Goals as goal

pub returns-in-Ok-fill-clause-gives : goal.returns-in-Ok-fill-clause-gives
returns-in-Ok-fill-clause-gives g c =
    let range : FitsSigned w64 c.args.moment = c.ranges.moment in
    record {
      givens = map placed_given c.in-Ok.given.givens;
      give = simp to_z-of_z at c.in-Ok.ensures.gives;
      whole_is = c.in-Ok-fill.ensures ∙ ap (λ (givens : List PlacedGiven). filled (map placed_given givens) (query_of c.args.query.now)) c.as_slice.ensures;
    }
