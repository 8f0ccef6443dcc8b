-- Which queries go over rows: those without aggregates, GROUPING, groups and HAVING.
use Rattle.std.specs.Prelude.{ℕ, Bool, true, false, not, ◌&&◌, List, [], ◌∷◌, Option, Some, None}
use Rattle.std.specs.List.{list_all}
use Rattle.std.specs.Option.{is_none}
use Rattle.grammar.specs.Trees.{Tree, Trees, no_trees, more_trees, Whens, no_whens, more_whens, Otherwise, no_else, an_else, Test, Item, Parts, Query}
use Rattle.grammar.specs.Trees.{Tree as tree}
use Rattle.grammar.specs.Trees.{Test as test}
use Rattle.grammar.specs.Trees.{Query as query}
use Rattle.grammar.specs.Trees.{trees_of as listed}
use Rattle.query_types.specs.Calls.{is_aggregate}

-- whether a call is one of an aggregate or of GROUPING
abbrev pub is_grouping : List ℕ → Trees → Bool
is_grouping name no_trees = false
is_grouping name (more_trees e no_trees) = is_aggregate name
is_grouping name (more_trees e (more_trees d es)) = false

abbrev mutual
  -- whether an expression has neither an aggregate nor GROUPING
  pub is_plain : Tree → Bool
  is_plain (tree.Integer at value) = true
  is_plain (tree.Real at value) = true
  is_plain (tree.Text at value) = true
  is_plain (tree.Null at) = true
  is_plain (tree.Timestamp at value pattern) = true
  is_plain (tree.Word at name) = true
  is_plain (tree.Call at name es) = not (is_grouping name es) && are_plain es
  is_plain (tree.CountAll at) = false
  is_plain (tree.PropCountAll at) = false
  is_plain (tree.Case at subject branches otherwise) = is_plain subject && are_plain_branches branches && is_plain_else otherwise

  pub are_plain : Trees → Bool
  are_plain no_trees = true
  are_plain (more_trees e es) = is_plain e && are_plain es

  pub are_plain_branches : Whens → Bool
  are_plain_branches no_whens = true
  are_plain_branches (more_whens test value branches) = is_plain test && is_plain value && are_plain_branches branches

  pub is_plain_else : Otherwise → Bool
  is_plain_else no_else = true
  is_plain_else (an_else value) = is_plain value

abbrev pub is_plain_test : Test → Bool
is_plain_test (test.Or at a b) = is_plain_test a && is_plain_test b
is_plain_test (test.And at a b) = is_plain_test a && is_plain_test b
is_plain_test (test.Not at a) = is_plain_test a
is_plain_test (test.Compare at sign left right) = is_plain left && is_plain right
is_plain_test (test.IsNull at value negated) = is_plain value
is_plain_test (test.Like at value pattern negated) = is_plain value
is_plain_test (test.Between at value low high negated) = is_plain value && is_plain low && is_plain high
is_plain_test (test.InList at value items negated) = is_plain value && are_plain items
is_plain_test (test.InQuery at value negated given) = is_plain value

abbrev pub is_plain_where : Option Test → Bool
is_plain_where None = true
is_plain_where (Some condition) = is_plain_test condition

abbrev pub are_plain_items : List Item → Bool
are_plain_items items = list_all (λ item. is_plain item.value) items

abbrev pub has_none : {A : Type 0} → List A → Bool
has_none [] = true
has_none (x ∷ xs) = false

-- the parts of a query that goes over rows
abbrev pub are_built : Parts → Bool
are_built parts = are_plain_items parts.items && are_plain_items parts.aliases
    && is_plain_where parts.condition && has_none parts.keys && is_none parts.having && are_plain (listed parts.order)

abbrev pub is_built : Query → Bool
is_built (query.query parts subqueries) = are_built parts
