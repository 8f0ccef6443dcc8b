use Rattle.command_words.proofs.Parts.{nothing_behind}
use Rattle.command_words.proofs.word.value_in.Goals as goal

pub returns-in-None : goal.returns-in-None
returns-in-None c = nothing_behind c.args.word.now c.in-None.ensures
