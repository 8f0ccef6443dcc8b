use Rattle.run_entry.proofs.Telling.{text_tells}
use Rattle.run_entry.proofs.laws.input_texts_tell_their_format.Goals as goal

pub returns : goal.returns
returns c = text_tells
