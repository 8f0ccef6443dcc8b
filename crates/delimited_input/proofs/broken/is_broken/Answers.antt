use Rattle.std.proofs.Common.{◌∙◌}
use Rattle.delimited_input.proofs.Searching.{broken_told}
use Rattle.delimited_input.proofs.broken.is_broken.Goals as goal

pub returns : goal.returns
returns c = c.is_some.ensures ∙ broken_told c.args.line.now c.memchr2.result c.memchr2.ensures
