use Rattle.std.proofs.Common.{map}
use Rattle.std.specs.Map.Iter.{deref_pair}
use Rattle.positions.specs.SpanSteps.{IsKnownAmong}
use Rattle.positions.proofs.known.known_of.Given as goal

-- the greatest generation among the places so far
abbrev pub invariant-loop-identity : goal.invariant-loop-identity
invariant-loop-identity l = IsKnownAmong l.front (map deref_pair l.yielded) l.known
