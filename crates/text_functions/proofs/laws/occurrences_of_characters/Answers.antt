use Rattle.text_functions.proofs.Cutting.{occurrence_characters}
use Rattle.text_functions.proofs.laws.occurrences_of_characters.Goals as goal

pub returns : goal.returns
returns c = λ text part front rest utf8 part-utf8 some e. occurrence_characters text part front rest utf8 part-utf8 some e
