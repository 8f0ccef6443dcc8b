-- A query of its parts.
use Rattle.std.specs.Prelude.{ℕ, pos, List, ◌++◌, map, option_map}
use Rattle.grammar.specs.Trees as model
use Rattle.grammar.specs.Trees.{Query as query}
use Rattle.query_tree.specs.declared.query.Query.{Query, out-Query}
use Rattle.query_tree.specs.declared.query.QueryList.{out-QueryList}
use Rattle.query_tree.specs.Views.{items_of, placed_of, placed_all, test_of, query_of, numbers_of}
use Rattle.query_parser.specs.declared.clauses.Selected.{Selected}
use Rattle.query_parser.specs.declared.query.Sourced.{Sourced}
use Rattle.query_parser.specs.declared.query.Ended.{Ended}
use Rattle.query_parser.specs.Clauses.{keys_of}
use Rattle.query_parser.specs.Conditions.{conditions_with}

-- USING to WHERE, with the subqueries of WHERE
abbrev pub sourced_of : Sourced → List model.Query → model.Sourced
sourced_of s qs = (option_map items_of s.aliases, (option_map placed_of s.into, (placed_all s.names, conditions_with s.condition qs)))

-- GROUP BY to the end, with the subqueries of HAVING
abbrev pub ended_of : Ended → List model.Query → model.Ended
ended_of e qs = (option_map keys_of e.keys, (conditions_with e.having qs, option_map keys_of e.order))

-- a query of its parts
abbrev pub query_with : Selected → Sourced → Ended → List Query → model.Query
query_with s u e asked = query.query (record {
  top = option_map pos s.top;
  distinct = s.distinct;
  star = s.columns.star;
  items = items_of s.columns.items;
  aliases = model.items_of (option_map items_of u.aliases);
  into = option_map placed_of u.into;
  names = placed_all u.names;
  condition = option_map test_of u.condition;
  keys = model.keys_of (option_map keys_of e.keys);
  rollup = model.mark_of (option_map keys_of e.keys);
  having = option_map test_of e.having;
  order = model.keys_of (option_map keys_of e.order);
  descending = model.mark_of (option_map keys_of e.order);
}) (model.queries_of (map query_of asked))

-- the subqueries of a query
abbrev pub asked_in : Query → List Query
asked_in q = (out-QueryList (out-Query q).subqueries).items.items

-- the numbers of the subqueries in its conditions, from left to right
abbrev pub numbers_in_query : Query → List ℕ
numbers_in_query q = numbers_of (out-Query q).condition ++ numbers_of (out-Query q).having
