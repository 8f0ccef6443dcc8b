-- The clauses of a query as the grammar sees them.
use Rattle.std.specs.Prelude.{ℕ, pos, Bool, List, Option, option_map}
use Rattle.grammar.specs.Trees as model
use Rattle.query_tree.specs.Views.{items_of, trees_of}
use Rattle.query_parser.specs.declared.clauses.Columns.{Columns}
use Rattle.query_parser.specs.declared.clauses.Keys.{Keys}
use Rattle.query_parser.specs.declared.clauses.Selected.{Selected}

-- the place of `*`, and the items
abbrev pub columns_of : Columns → Option ℕ × List model.Item
columns_of c = (c.star, items_of c.items)

-- expressions, and whether they are marked
abbrev pub keys_of : Keys → List model.Tree × Bool
keys_of k = (trees_of k.items, k.marked)

-- TOP, DISTINCT and the list
abbrev pub selected_of : Selected → model.Selected
selected_of s = (option_map pos s.top, (s.distinct, columns_of s.columns))
