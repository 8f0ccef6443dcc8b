-- The FROM names of a query as it stands in memory.
use Rattle.std.proofs.Common.{◌≡◌, refl, map}
use Rattle.grammar.specs.Trees as model
use Rattle.query_text.specs.Stdin.{names_in}
use Rattle.query_tree.specs.Views.{placed_all, query_of}
use Rattle.query_tree.specs.declared.query.Query.{Query, Query', out-Query}

pub names_behind : (q : Query) → map (λ (name : model.Placed). name.text) (placed_all (out-Query q).names) ≡ map (λ (name : model.Placed). name.text) (names_in (query_of q))
unfolding out-Query denote.Hole.Carrier.out
names_behind (Query' top distinct star items aliases into names condition keys rollup having order descending subqueries) = refl
