use Rattle.in_set.proofs.Finding.{finds_all}
use Rattle.headline.proofs.lists.sets_find_lists.Goals as goal

pub returns : goal.returns
returns c = finds_all
