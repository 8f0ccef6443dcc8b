use Rattle.std.proofs.Common.{◌≡◌, ◌++◌, take}
use Rattle.lp_time.specs.Writings.{written}
use Rattle.lp_time.proofs.writing.add_pieces.Given as goal

-- The pieces so far are written.
abbrev pub invariant-loop-piece : goal.invariant-loop-piece
invariant-loop-piece l = l.to ≡ l.fn.to ++ written (take l.piece-index l.pieces) l.civil
