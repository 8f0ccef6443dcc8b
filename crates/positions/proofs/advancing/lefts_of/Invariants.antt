use Rattle.std.proofs.Common.{take, map}
use Rattle.std.specs.List.{AllZip}
use Rattle.ledger.specs.Written.{span_of}
use Rattle.positions.specs.Advances.{IsLeftBy}
use Rattle.positions.proofs.advancing.lefts_of.Given as goal

abbrev pub invariant-loop-span : goal.invariant-loop-span
invariant-loop-span l = AllZip IsLeftBy (map span_of (take l.span-index l.spans)) l.lefts.items
