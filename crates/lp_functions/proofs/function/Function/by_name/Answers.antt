use Rattle.lp_functions.proofs.NameLemmas.{named-name_of}
use Rattle.lp_functions.proofs.function.Function.by_name.Goals as goal

pub returns-clause-back : goal.returns-clause-back
returns-clause-back c = named-name_of
