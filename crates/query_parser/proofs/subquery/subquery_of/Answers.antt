use Rattle.std.proofs.Common.{refl}
use Rattle.query_tree.proofs.Lists.{query_made}
use Rattle.query_parser.proofs.subquery.subquery_of.Goals as goal

pub returns : goal.returns
returns c =
    rw (query_made, c.new.ensures, c.new-2.ensures, c.new-3.ensures, c.new-4.ensures) refl
