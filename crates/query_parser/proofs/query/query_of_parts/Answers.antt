use Rattle.std.proofs.Common.{refl}
use Rattle.query_tree.proofs.Lists.{query_made}
use Rattle.query_parser.proofs.query.query_of_parts.Goals as goal

pub returns-clause-query : goal.returns-clause-query
returns-clause-query c =
    rw (query_made, c.items_or_none-aliases.ensures, c.keys_or_none-keys.ensures.items, c.keys_or_none-keys.ensures.marked, c.keys_or_none-order.ensures.items, c.keys_or_none-order.ensures.marked, c.query_list.ensures) refl
