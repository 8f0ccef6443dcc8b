use Rattle.std.proofs.Common.{◌∙◌, sym}
use Rattle.senses.specs.Senses.{same_sense, sense_of}
use Rattle.senses.proofs.Found.{any_map}
use Rattle.senses.proofs.sameness.is_key.Goals as goal

pub returns : goal.returns
returns c = c.has_same.ensures ∙ sym (any_map (same_sense (sense_of c.args.sense.now)) sense_of c.args.keys.now)
