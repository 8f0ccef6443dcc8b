use Rattle.query_types.proofs.Lists.{plain_items}
use Rattle.row_planning.proofs.built.are_plain_items.Goals as goal

pub returns : goal.returns
returns c = rw (c.all_plain_items.ensures, c.deref.ensures.value) (plain_items c.args.items.now.items.items)
