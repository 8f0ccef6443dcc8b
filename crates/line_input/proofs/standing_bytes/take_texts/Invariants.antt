use Rattle.line_input.proofs.Fronts.{HasNames}
use Rattle.line_input.proofs.standing_bytes.take_texts.Given as goal

abbrev pub invariant-loop-index : goal.invariant-loop-index
invariant-loop-index l = HasNames l.fn.bytes l.names l.rest l._index
