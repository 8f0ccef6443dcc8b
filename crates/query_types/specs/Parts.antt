-- The parts of a query as it lies in memory.
use Rattle.std.specs.Prelude.{pos, option_map}
use Rattle.grammar.specs.Trees.{Parts}
use Rattle.query_tree.specs.Views.{items_of, placed_of, placed_all, test_of, trees_of}
use Rattle.query_tree.specs.declared.query.Query.{Query, out-Query}

abbrev pub parts_of : Query → Parts
parts_of q = record {
  top = option_map pos (out-Query q).top;
  distinct = (out-Query q).distinct;
  star = (out-Query q).star;
  items = items_of (out-Query q).items;
  aliases = items_of (out-Query q).aliases;
  into = option_map placed_of (out-Query q).into;
  names = placed_all (out-Query q).names;
  condition = option_map test_of (out-Query q).condition;
  keys = trees_of (out-Query q).keys;
  rollup = (out-Query q).rollup;
  having = option_map test_of (out-Query q).having;
  order = trees_of (out-Query q).order;
  descending = (out-Query q).descending;
}
