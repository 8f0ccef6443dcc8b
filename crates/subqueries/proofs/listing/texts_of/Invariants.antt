use Rattle.std.proofs.Common.{◌≡◌, map, take}
use Rattle.grammar.specs.Trees as model
use Rattle.query_tree.specs.Views.{placed_of}
use Rattle.subqueries.proofs.listing.texts_of.Given as goal

-- the texts of the names so far
abbrev pub invariant-loop-name : goal.invariant-loop-name
invariant-loop-name l = record {
  items : l.name-items ≡ l.names.items.items;
  texts : l.texts ≡ map (λ (name : model.Placed). name.text) (map placed_of (take l.name-index l.name-items));
}
