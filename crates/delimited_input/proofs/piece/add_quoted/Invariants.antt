use Rattle.std.proofs.Common.{◌-◌, length}
use Rattle.delimited_input.proofs.PieceLemmas.{AddedUpTo}
use Rattle.delimited_input.proofs.piece.add_quoted.Given as goal

-- the bytes before the place were added
abbrev pub invariant-loop-held : goal.invariant-loop-held
invariant-loop-held l = AddedUpTo l.line l.from l.at l.to l.initial.held l.held

abbrev pub decreases-loop-held : goal.decreases-loop-held
decreases-loop-held l = length l.line - l.at
