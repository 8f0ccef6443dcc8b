use Rattle.std.proofs.Common.{◌≡◌, drop}
use Rattle.lp_time.specs.Readings.{read_onto}
use Rattle.lp_time.proofs.reading.read_onto.Given as goal

-- The pieces that are left give what all give.
abbrev pub invariant-loop-piece : goal.invariant-loop-piece
invariant-loop-piece l = read_onto l.fn.civil l.pieces l.text ≡ read_onto l.civil (drop l.piece-index l.pieces) l.rest
