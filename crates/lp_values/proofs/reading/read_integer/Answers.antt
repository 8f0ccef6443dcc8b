use Rattle.std.proofs.Common.{◌∙◌}
use Rattle.lp_values.proofs.ReadingLemmas.{integer_read}
use Rattle.lp_values.proofs.reading.read_integer.Goals as goal

pub returns : goal.returns
returns c = c.ok.ensures.value ∙ integer_read c.args.text.now c.parse.result c.parse.ensures.value.0
