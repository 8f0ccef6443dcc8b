use Rattle.lp_functions.proofs.WrittenLemmas.{written_text}
use Rattle.lp_functions.proofs.laws.written_is_text.Goals as goal

pub returns : goal.returns
returns c = written_text
