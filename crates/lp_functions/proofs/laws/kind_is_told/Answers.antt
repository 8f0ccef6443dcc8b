use Rattle.lp_functions.proofs.KindLemmas.{kind_told}
use Rattle.lp_functions.proofs.laws.kind_is_told.Goals as goal

pub returns : goal.returns
returns c = kind_told
