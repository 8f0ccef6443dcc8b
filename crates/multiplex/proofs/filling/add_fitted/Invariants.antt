use Rattle.std.proofs.Common.{◌≡◌, ◌++◌, map, take}
use Rattle.multiplex.specs.Naming.{fitted}
use Rattle.multiplex.proofs.filling.add_fitted.Given as goal

abbrev pub invariant-loop-byte : goal.invariant-loop-byte
invariant-loop-byte l = l.to ≡ l.initial.to ++ map fitted (take l.byte-index l.text)
