use Rattle.ledger.proofs.Cutters.{cuts_word}
use Rattle.ledger.proofs.input_text.after.Goals as goal

pub returns : goal.returns
returns c = cuts_word c.args.text.now c.args.word.now c.strip_prefix.result c.strip_prefix.ensures.cases
