use Rattle.std.proofs.Common.{◌≡◌, map, take}
use Rattle.row_engine.specs.Settled.{settled}
use Rattle.row_engine.proofs.settling.settled_meanings.Given as goal

abbrev pub invariant-loop-item : goal.invariant-loop-item
invariant-loop-item l = l.settled ≡ map settled (take l.item-index l.item-items)
