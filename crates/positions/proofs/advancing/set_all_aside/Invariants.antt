use Rattle.std.proofs.Common.{take, map}
use Rattle.ledger.specs.Written.{span_of}
use Rattle.positions.specs.Advances.{AreSame, HaveRoom}
use Rattle.positions.proofs.advancing.set_all_aside.Given as goal

abbrev pub invariant-loop-span : goal.invariant-loop-span
invariant-loop-span l = record {
  same : AreSame l.fn.places.entries l.places.entries;
  room : HaveRoom l.places.entries (map span_of (take l.span-index l.spans));
}
