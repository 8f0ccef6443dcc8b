use Rattle.senses.proofs.Forms.{formed_sense}
use Rattle.senses.proofs.sense.formed.Goals as goal

pub returns : goal.returns
returns c = formed_sense c.args.kind c.args.by c.args.of
