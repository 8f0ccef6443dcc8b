use Rattle.text_functions.proofs.PlaceLemmas.{last_place-cut}
use Rattle.text_functions.proofs.PrefixLemmas.{suffix_last, suffix_next, suffix_whole}
use Rattle.text_functions.proofs.laws.last_behind.Goals as goal

pub returns-clause-place : goal.returns-clause-place
returns-clause-place c = λ part text before behind some cut. last_place-cut text part before behind some cut

pub returns-clause-suffix : goal.returns-clause-suffix
returns-clause-suffix c = λ part text before behind some cut. suffix_last part text before behind some cut

pub returns-clause-next : goal.returns-clause-next
returns-clause-next c = λ part text before behind n some cut. suffix_next part text before behind n some cut

pub returns-clause-whole : goal.returns-clause-whole
returns-clause-whole c = λ part text n some none. suffix_whole part text n some none
