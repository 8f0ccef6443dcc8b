use Rattle.query_parser.proofs.Unique.{one_query}
use Rattle.query_parser.proofs.whole.one_tree.Goals as goal

pub returns : goal.returns
returns c = one_query
