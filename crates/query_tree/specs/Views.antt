-- Trees without where they lie in memory.
use Rattle.std.specs.Prelude.{ℕ, ℤ, pos, List, [], ◌∷◌, ◌++◌, map, Option, Some, None, option_map}
use Rattle.grammar.specs.Trees.{Tree as tree}
use Rattle.grammar.specs.Trees.{Whens as whens}
use Rattle.grammar.specs.Trees.{Trees as trees}
use Rattle.grammar.specs.Trees.{Otherwise as otherwise}
use Rattle.grammar.specs.Trees.{Test as test}
use Rattle.grammar.specs.Trees.{Query as query}
use Rattle.grammar.specs.Trees.{Queries as queries}
use Rattle.grammar.specs.Trees as model
use Rattle.grammar.specs.Filled as model_filled
use Rattle.lp_values.specs.declared.comparison.Compare.{Compare}
use Rattle.lp_values.specs.declared.comparison.Compare.TheVariants as h
use Rattle.query_tree.specs.declared.placed.Placed.{Placed}
use Rattle.query_tree.specs.declared.placed.PlacedList.{PlacedList}
use Rattle.query_tree.specs.declared.expression.Expr.{Expr, Integer, Real, Text, Null, Timestamp, Word, Call', CountAll, PropCountAll, Case', Row_of-Expr, end_of-Expr, more_of-Expr, Held-Expr-Case-3, None', Some'}
use Rattle.query_tree.specs.declared.expression.ExprList.{ExprList}
use Rattle.query_tree.specs.declared.expression.When.{When}
use Rattle.query_tree.specs.declared.expression.WhenList.{WhenList, WhenList', out-WhenList, Row_of-When, end_of-When, more_of-When}
use Rattle.query_tree.specs.declared.condition.Cond.{Cond, Or', And', Not', Compare as Compares, IsNull, Like, Between, InList, InQuery}
use Rattle.query_tree.specs.declared.given.Given.{Given}
use Rattle.query_tree.specs.declared.given.PlacedGiven.{PlacedGiven}
use Rattle.query_tree.specs.declared.query.Item.{Item}
use Rattle.query_tree.specs.declared.query.ItemList.{ItemList}
use Rattle.query_tree.specs.declared.query.Query.{Query, Query'}
use Rattle.query_tree.specs.declared.query.QueryList.{QueryList, QueryList', Row_of-Query, end_of-Query, more_of-Query}

abbrev pub placed_of : Placed → model.Placed
placed_of p = record { at = p.at; text = p.text }

abbrev mutual
  pub tree_of : Expr → model.Tree
  tree_of (Integer at value) = tree.Integer at value
  tree_of (Real at value) = tree.Real at value.millionths
  tree_of (Text at value) = tree.Text at value
  tree_of (Null at) = tree.Null at
  tree_of (Timestamp at value pattern) = tree.Timestamp at (placed_of value) (placed_of pattern)
  tree_of (Word at name) = tree.Word at name
  tree_of (Call' at name shape all) = tree.Call at name (trees_in all)
  tree_of (CountAll at) = tree.CountAll at
  tree_of (PropCountAll at) = tree.PropCountAll at
  tree_of (Case' at p subject branches otherwise) = tree.Case at (tree_of subject) (whens_in branches) (else_of otherwise)

  pub trees_in : {m : _} → Row_of-Expr m → model.Trees
  trees_in end_of-Expr = trees.no_trees
  trees_in (more_of-Expr e rest) = trees.more_trees (tree_of e) (trees_in rest)

  pub whens_in : WhenList → model.Whens
  whens_in (WhenList' shape all) = whens_of_row all

  pub whens_of_row : {m : _} → Row_of-When m → model.Whens
  whens_of_row end_of-When = whens.no_whens
  whens_of_row (more_of-When test value rest) = whens.more_whens (tree_of test) (tree_of value) (whens_of_row rest)

  pub else_of : Held-Expr-Case-3 → model.Otherwise
  else_of None' = otherwise.no_else
  else_of (Some' p e) = otherwise.an_else (tree_of e)

abbrev pub when_of : When → model.Tree × model.Tree
when_of w = (tree_of w.test, tree_of w.value)

-- each comparison has the number of its sign
abbrev pub number_of : Compare → ℤ
number_of h.Equal = pos 0
number_of h.NotEqual = pos 1
number_of h.Less = pos 2
number_of h.More = pos 3
number_of h.LessEqual = pos 4
number_of h.MoreEqual = pos 5

abbrev pub trees_of : ExprList → List model.Tree
trees_of es = map tree_of es.items.items

abbrev pub whens_of : WhenList → List (model.Tree × model.Tree)
whens_of ws = map when_of (out-WhenList ws).items.items

abbrev pub given_of : Given → model.Given
given_of given = record { place = given.place; kind = given.kind; values = given.values.value; logs = given.logs.value; bad = given.bad }

abbrev pub placed_given : PlacedGiven → model_filled.PlacedGiven
placed_given one = record { at = one.at; given = given_of one.given }

abbrev pub test_of : Cond → model.Test
test_of (Or' at p a q b) = test.Or at (test_of a) (test_of b)
test_of (And' at p a q b) = test.And at (test_of a) (test_of b)
test_of (Not' at p a) = test.Not at (test_of a)
test_of (Compares at how a b) = test.Compare at (number_of how) (tree_of a) (tree_of b)
test_of (IsNull at a neg) = test.IsNull at (tree_of a) neg
test_of (Like at a p neg) = test.Like at (tree_of a) (placed_of p) neg
test_of (Between at a b c neg) = test.Between at (tree_of a) (tree_of b) (tree_of c) neg
test_of (InList at a es neg) = test.InList at (tree_of a) (model.trees_of (trees_of es)) neg
test_of (InQuery at a n neg given) = test.InQuery at (tree_of a) neg (option_map given_of given)

-- the numbers of a condition's subqueries, from left to right
abbrev pub numbers_in : Cond → List ℕ
numbers_in (Or' at p a q b) = numbers_in a ++ numbers_in b
numbers_in (And' at p a q b) = numbers_in a ++ numbers_in b
numbers_in (Not' at p a) = numbers_in a
numbers_in (Compares at how a b) = []
numbers_in (IsNull at a neg) = []
numbers_in (Like at a p neg) = []
numbers_in (Between at a b c neg) = []
numbers_in (InList at a es neg) = []
numbers_in (InQuery at a n neg given) = n ∷ []

abbrev pub numbers_of : Option Cond → List ℕ
numbers_of None = []
numbers_of (Some c) = numbers_in c

abbrev pub item_of : Item → model.Item
item_of i = record { value = tree_of i.value; alias = i.alias }

abbrev pub items_of : ItemList → List model.Item
items_of is = map item_of is.items.items

abbrev pub placed_all : PlacedList → List model.Placed
placed_all ps = map placed_of ps.items.items

abbrev mutual
  pub query_of : Query → model.Query
  query_of (Query' top distinct star items aliases into names condition keys rollup having order descending subqueries) = query.query (record {
    top = option_map pos top;
    distinct = distinct;
    star = star;
    items = items_of items;
    aliases = items_of aliases;
    into = option_map placed_of into;
    names = placed_all names;
    condition = option_map test_of condition;
    keys = trees_of keys;
    rollup = rollup;
    having = option_map test_of having;
    order = trees_of order;
    descending = descending;
  }) (queries_in subqueries)

  pub queries_in : QueryList → model.Queries
  queries_in (QueryList' shape all) = queries_of_row all

  pub queries_of_row : {m : _} → Row_of-Query m → model.Queries
  queries_of_row end_of-Query = queries.no_queries
  queries_of_row (more_of-Query q rest) = queries.more_queries (query_of q) (queries_of_row rest)
