-- A query is its parts and its subqueries.
use Rattle.std.proofs.Common.{◌≡◌, refl}
use Rattle.grammar.specs.Trees.{Query as query}
use Rattle.query_tree.specs.Views.{query_of, queries_in}
use Rattle.query_tree.specs.declared.query.Query.{Query, Query', out-Query}
use Rattle.query_types.specs.Parts.{parts_of}

pub query_parts : (q : Query) → query_of q ≡ query.query (parts_of q) (queries_in (out-Query q).subqueries)
unfolding out-Query denote.Hole.Carrier.out
query_parts (Query' top distinct star items aliases into names condition keys rollup having order descending subqueries) = refl
