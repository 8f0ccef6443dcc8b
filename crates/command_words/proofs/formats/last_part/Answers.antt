use Rattle.std.proofs.Common.{arith}
use Rattle.command_words.proofs.LastPart.{part_is}
use Rattle.command_words.proofs.formats.last_part.Goals as goal

pub returns : goal.returns
returns c = part_is c.args.name.now c.loop-place.start (omega arith) (λ k from within. c.loop-place.invariant.none_behind k from (omega arith)) c.loop-place.invariant.slash
