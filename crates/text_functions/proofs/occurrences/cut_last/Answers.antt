use Rattle.text_functions.proofs.Cutting.{cut_last, last_utf8}
use Rattle.text_functions.proofs.occurrences.cut_last.Goals as goal

pub returns-clause-cut : goal.returns-clause-cut
returns-clause-cut c = cut_last c.args.part.now c.args.text.now c.rsplit_once.result c.rsplit_once.ensures.cases

pub returns-clause-utf8 : goal.returns-clause-utf8
returns-clause-utf8 c =
    last_utf8 c.args.part.now c.args.text.now c.rsplit_once.result c.utf8.text c.utf8.part c.requires (cut_last c.args.part.now c.args.text.now c.rsplit_once.result c.rsplit_once.ensures.cases)
