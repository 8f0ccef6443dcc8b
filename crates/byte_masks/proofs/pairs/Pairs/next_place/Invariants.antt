use Rattle.std.proofs.Common.{◌-◌, length}
use Rattle.byte_masks.specs.Places.{are_in, pairs_of}
use Rattle.byte_masks.specs.Search.{Looks}
use Rattle.byte_masks.proofs.Steps.{Run}
use Rattle.byte_masks.proofs.pairs.Pairs.next_place.Given as goal

abbrev pub invariant-loop-mask : goal.invariant-loop-mask
invariant-loop-mask l = record {
  looks : Looks (are_in l.first l.second) (pairs_of l.apart l.bytes) l.at l.base l.mask;
  run : Run (are_in l.first l.second) (pairs_of l.apart l.bytes) l.initial.at l.at;
}

abbrev pub decreases-loop-mask : goal.decreases-loop-mask
decreases-loop-mask l = length l.bytes - l.base
