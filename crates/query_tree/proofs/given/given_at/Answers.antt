use Rattle.std.proofs.Common.{◌≡◌, ◌∙◌, Option, Some, option_map, sym, ap}
use Rattle.std.specs.declared.alloc.Global.{Global}
use Rattle.grammar.specs.Trees.{Given}
use Rattle.query_tree.specs.declared.given.PlacedGiven.{PlacedGiven}
use Rattle.query_tree.specs.Views.{given_of}
use Rattle.query_tree.proofs.Finding.{found_at}
use Rattle.query_tree.proofs.given.given_at.Goals as goal

pub returns-in-None : goal.returns-in-None
returns-in-None c =
    ap (λ (r : Option PlacedGiven). option_map (λ one. given_of one.given) r) (sym (ap (option_map (λ one. one.now)) c.in-None.is) ∙ c.find_given.ensures)
    ∙ found_at c.args.givens.now c.args.at

pub returns-in_ok-share-in-Some : goal.returns-in_ok-share-in-Some
returns-in_ok-share-in-Some c =
    ap (λ (g : Given). Some g) c.in_ok-share-in-Some.ensures
    ∙ ap (λ (r : Option PlacedGiven). option_map (λ one. given_of one.given) r) (sym (ap (option_map (λ one. one.now)) c.in-Some.is) ∙ c.find_given.ensures)
    ∙ found_at c.args.givens.now c.args.at
