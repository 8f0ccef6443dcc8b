-- Which queries are grouped.
use Rattle.std.specs.Prelude.{ℕ, Bool, true, false, not, ◌||◌, List, Option, Some, None}
use Rattle.std.specs.List.{list_any}
use Rattle.grammar.specs.Trees.{Tree, Trees, no_trees, more_trees, Whens, no_whens, more_whens, Otherwise, no_else, an_else, Test, Item, Query}
use Rattle.grammar.specs.Trees.{Tree as tree}
use Rattle.grammar.specs.Trees.{Test as test}
use Rattle.grammar.specs.Trees.{Query as query}
use Rattle.grammar.specs.Trees.{trees_of as listed}
use Rattle.query_types.specs.Built.{has_none}
use Rattle.query_types.specs.Calls.{is_counting}

-- whether a call is one of an aggregate, which has one argument
abbrev pub is_counting_call : List ℕ → Trees → Bool
is_counting_call name no_trees = false
is_counting_call name (more_trees e no_trees) = is_counting name
is_counting_call name (more_trees e (more_trees d es)) = false

abbrev mutual
  -- whether an aggregate stands in an expression
  pub has_aggregate : Tree → Bool
  has_aggregate (tree.Integer at value) = false
  has_aggregate (tree.Real at value) = false
  has_aggregate (tree.Text at value) = false
  has_aggregate (tree.Null at) = false
  has_aggregate (tree.Timestamp at value pattern) = false
  has_aggregate (tree.Word at name) = false
  has_aggregate (tree.Call at name es) = is_counting_call name es || have_aggregate es
  has_aggregate (tree.CountAll at) = true
  has_aggregate (tree.PropCountAll at) = true
  has_aggregate (tree.Case at subject branches otherwise) = has_aggregate subject || branches_have branches || else_has otherwise

  pub have_aggregate : Trees → Bool
  have_aggregate no_trees = false
  have_aggregate (more_trees e es) = has_aggregate e || have_aggregate es

  pub branches_have : Whens → Bool
  branches_have no_whens = false
  branches_have (more_whens test value branches) = has_aggregate test || has_aggregate value || branches_have branches

  pub else_has : Otherwise → Bool
  else_has no_else = false
  else_has (an_else value) = has_aggregate value

-- whether one stands in a condition, its subqueries aside
abbrev pub test_has : Test → Bool
test_has (test.Or at a b) = test_has a || test_has b
test_has (test.And at a b) = test_has a || test_has b
test_has (test.Not at a) = test_has a
test_has (test.Compare at sign left right) = has_aggregate left || has_aggregate right
test_has (test.IsNull at value negated) = has_aggregate value
test_has (test.Like at value pattern negated) = has_aggregate value
test_has (test.Between at value low high negated) = has_aggregate value || has_aggregate low || has_aggregate high
test_has (test.InList at value items negated) = has_aggregate value || have_aggregate items
test_has (test.InQuery at value negated given) = has_aggregate value

abbrev pub maybe_has : Option Test → Bool
maybe_has None = false
maybe_has (Some condition) = test_has condition

abbrev pub items_have : List Item → Bool
items_have items = list_any (λ item. has_aggregate item.value) items

-- a query is grouped where it has GROUP BY, or an aggregate anywhere, subqueries aside
abbrev pub is_grouped : Query → Bool
is_grouped (query.query parts subqueries) = not (has_none parts.keys)
    || items_have parts.aliases || items_have parts.items || maybe_has parts.condition || maybe_has parts.having || have_aggregate (listed parts.order)
