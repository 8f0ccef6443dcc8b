-- Trees, read at the lists of their parts.
use Rattle.std.proofs.Common.{◌≡◌, ℕ, pos, Bool, List, map, refl, ◌∙◌, ap, Option, option_map, rules}
use Rattle.grammar.specs.Trees.{Tree, Trees, Whens, Queries}
use Rattle.grammar.specs.Trees as model
use Rattle.grammar.specs.Trees.{Tree as tree}
use Rattle.grammar.specs.Trees.{Trees as trees}
use Rattle.grammar.specs.Trees.{Whens as whens}
use Rattle.grammar.specs.Trees.{Queries as queries}
use Rattle.query_tree.specs.Views.{placed_of, placed_all, items_of, test_of, tree_of, trees_of, trees_in, when_of, whens_of, whens_in, whens_of_row, query_of, queries_in, queries_of_row}
use Rattle.query_tree.specs.declared.expression.ExprList.{ExprList}
use Rattle.query_tree.specs.declared.expression.WhenList.{WhenList, WhenList', Row_of-When, end_of-When, more_of-When, items-the_row-When}
use Rattle.query_tree.specs.declared.expression.Expr.TheViews as shown
use Rattle.query_tree.specs.declared.expression.Expr.{Expr, Row_of-Expr, end_of-Expr, more_of-Expr, items-the_row-Expr, the_lemmas}
use Rattle.query_tree.specs.declared.query.QueryList.{QueryList, QueryList', out-QueryList, Row_of-Query, end_of-Query, more_of-Query, items-the_row-Query}
use Rattle.query_tree.specs.declared.query.Query.{the_lemmas as query_lemmas}
use Rattle.query_tree.specs.declared.query.Query.{Query, Query', roll-Query, rolls-Query'}
use Rattle.query_tree.specs.declared.query.ItemList.{ItemList}
use Rattle.query_tree.specs.declared.condition.Cond.{Cond}
use Rattle.query_tree.specs.declared.placed.Placed.{Placed}
use Rattle.query_tree.specs.declared.placed.PlacedList.{PlacedList}
use Rattle.grammar.specs.Trees.{Query as query}

pub trees_map : {m : _} (all : Row_of-Expr m) → trees_in all ≡ model.trees_of (map tree_of (items-the_row-Expr m all))
trees_map end_of-Expr = refl
trees_map (more_of-Expr e rest) = ap (λ (l : Trees). trees.more_trees (tree_of e) l) (trees_map rest)

pub whens_map : {m : _} (all : Row_of-When m) → whens_of_row all ≡ model.whens_of (map when_of (items-the_row-When m all))
whens_map end_of-When = refl
whens_map (more_of-When test value rest) = ap (λ (l : Whens). whens.more_whens (tree_of test) (tree_of value) l) (whens_map rest)

pub queries_map : {m : _} (all : Row_of-Query m) → queries_of_row all ≡ model.queries_of (map query_of (items-the_row-Query m all))
queries_map end_of-Query = refl
queries_map (more_of-Query q rest) = ap (λ (l : Queries). queries.more_queries (query_of q) l) (queries_map rest)

pub call_tree : (at : ℕ) (name : List ℕ) (arguments : ExprList) → tree_of (shown.Call at name arguments) ≡ tree.Call at name (model.trees_of (trees_of arguments))
call_tree at name arguments = search (rules, the_lemmas, trees_map)

pub whens_list : (ws : WhenList) → whens_in ws ≡ model.whens_of (whens_of ws)
whens_list (WhenList' shape all) = search (rules, the_lemmas, whens_map)

pub queries_list : (qs : QueryList) → queries_in qs ≡ model.queries_of (map query_of (out-QueryList qs).items.items)
queries_list (QueryList' shape all) = search (rules, query_lemmas, queries_map)

-- a query, read at its parts
pub query_made : (top : Option ℕ) (distinct : Bool) (star : Option ℕ) (items aliases : ItemList) (into : Option Placed) (names : PlacedList) (condition : Option Cond) (keys : ExprList) (rollup : Bool) (having : Option Cond) (order : ExprList) (descending : Bool) (subqueries : QueryList)
    → query_of (roll-Query (record { top = top; distinct = distinct; star = star; items = items; aliases = aliases; into = into; names = names; condition = condition; keys = keys; rollup = rollup; having = having; order = order; descending = descending; subqueries = subqueries }))
    ≡ query.query (record { top = option_map pos top; distinct = distinct; star = star; items = items_of items; aliases = items_of aliases; into = option_map placed_of into; names = placed_all names; condition = option_map test_of condition; keys = trees_of keys; rollup = rollup; having = option_map test_of having; order = trees_of order; descending = descending })
    (model.queries_of (map query_of (out-QueryList subqueries).items.items))
query_made top distinct star items aliases into names condition keys rollup having order descending subqueries =
    ap (λ (q : Query). query_of q) (rolls-Query' (record { top = top; distinct = distinct; star = star; items = items; aliases = aliases; into = into; names = names; condition = condition; keys = keys; rollup = rollup; having = having; order = order; descending = descending; subqueries = subqueries })) ∙ ap (λ (qs : Queries). query.query (record { top = option_map pos top; distinct = distinct; star = star; items = items_of items; aliases = items_of aliases; into = option_map placed_of into; names = placed_all names; condition = option_map test_of condition; keys = trees_of keys; rollup = rollup; having = option_map test_of having; order = trees_of order; descending = descending }) qs) (queries_list subqueries)
