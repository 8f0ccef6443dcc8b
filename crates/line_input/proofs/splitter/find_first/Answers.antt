use Rattle.line_input.proofs.Split.{position_from_memchr}
use Rattle.line_input.proofs.splitter.find_first.Goals as goal

pub returns : goal.returns
returns c = position_from_memchr c.args.bytes.now c.memchr.result c.memchr.ensures
