use Rattle.std.proofs.Common.{◌∙◌, sym}
use Rattle.senses.specs.Senses.{same_sense, sense_of}
use Rattle.senses.proofs.Found.{position_map}
use Rattle.senses.proofs.sameness.first_same.Goals as goal

pub returns : goal.returns
returns c = c.place_of_same.ensures ∙ sym (position_map (same_sense (sense_of c.args.sense.now)) sense_of c.args.senses.now)
