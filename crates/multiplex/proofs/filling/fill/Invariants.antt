use Rattle.std.proofs.Common.{◌≡◌, ◌++◌, drop}
use Rattle.multiplex.specs.Naming.{filled}
use Rattle.multiplex.proofs.filling.fill.Given as goal

abbrev pub invariant-loop-byte : goal.invariant-loop-byte
invariant-loop-byte l = filled l.pattern l.values ≡ l.to ++ filled (drop l.byte-index l.pattern) l.rest
