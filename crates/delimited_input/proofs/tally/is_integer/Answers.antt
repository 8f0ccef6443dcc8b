use Rattle.std.proofs.Common.{is_some, ap, ◌∙◌}
use Rattle.delimited_input.specs.Kinds.{is_integer}
use Rattle.delimited_input.proofs.tally.is_integer.Goals as goal

pub returns : goal.returns
unfolding is_integer
returns c = c.is_some.ensures ∙ ap is_some c.read_integer.ensures
