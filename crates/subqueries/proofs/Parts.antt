-- The subqueries of a query, as the list in it.
use Rattle.std.proofs.Common.{◌≡◌, ◌∙◌, List, [], ◌∷◌, map, refl, ap}
use Rattle.grammar.specs.Trees as model
use Rattle.query_tree.proofs.Lists.{queries_list}
use Rattle.query_tree.specs.Views.{query_of, queries_in}
use Rattle.query_tree.specs.declared.query.Query.{Query, Query', out-Query}
use Rattle.query_tree.specs.declared.query.QueryList.{out-QueryList}
use Rattle.subqueries.specs.Giving.{listed_queries, subqueries_of}

listed_back : (qs : List model.Query) → listed_queries (model.queries_of qs) ≡ qs
listed_back [] = refl
listed_back (q ∷ qs) = ap (λ (l : List model.Query). q ∷ l) (listed_back qs)

subqueries_in : (q : Query) → subqueries_of (query_of q) ≡ listed_queries (queries_in (out-Query q).subqueries)
unfolding out-Query denote.Hole.Carrier.out
subqueries_in (Query' top distinct star items aliases into names condition keys rollup having order descending subqueries) = refl

pub subqueries_are : (q : Query) → subqueries_of (query_of q) ≡ map query_of (out-QueryList (out-Query q).subqueries).items.items
subqueries_are q =
    let qs : List Query = (out-QueryList (out-Query q).subqueries).items.items in
    subqueries_in q ∙ (ap listed_queries (queries_list (out-Query q).subqueries) ∙ listed_back (map query_of qs))
