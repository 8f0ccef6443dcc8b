use Rattle.text_functions.proofs.Cutting.{cut_first, first_utf8}
use Rattle.text_functions.proofs.occurrences.cut_first.Goals as goal

pub returns-clause-cut : goal.returns-clause-cut
returns-clause-cut c = cut_first c.args.part.now c.args.text.now c.split_once.result c.split_once.ensures.cases

pub returns-clause-utf8 : goal.returns-clause-utf8
returns-clause-utf8 c =
    first_utf8 c.args.part.now c.args.text.now c.split_once.result c.utf8.text c.utf8.part c.requires (cut_first c.args.part.now c.args.text.now c.split_once.result c.split_once.ensures.cases)
