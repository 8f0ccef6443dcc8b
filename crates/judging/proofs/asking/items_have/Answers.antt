use Rattle.judging.proofs.Having.{items_listed}
use Rattle.judging.proofs.asking.items_have.Goals as goal

pub returns : goal.returns
returns c = rw (c.any_item_has.ensures, c.deref.ensures.value) (items_listed c.args.items.now.items.items)
