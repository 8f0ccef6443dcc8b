use Rattle.lp_functions.proofs.NullLemmas.{null_given}
use Rattle.lp_functions.proofs.RowLemmas.{no_row}
use Rattle.lp_functions.proofs.applying.apply.Goals as goal

pub returns-clause-no_row : goal.returns-clause-no_row
returns-clause-no_row c = no_row c.args.function

pub returns-clause-null : goal.returns-clause-null
returns-clause-null c = null_given c.args.function
