use Rattle.std.proofs.Common.{◌≡◌, ◌≤◌, length, drop}
use Rattle.byte_masks.specs.Places.{is_in, mask_of}
use Rattle.byte_masks.proofs.block.few.Given as goal

abbrev pub invariant-loop-at : goal.invariant-loop-at
invariant-loop-at l = record {
  within : l.at ≤ length l.bytes;
  mask : l.mask ≡ mask_of (is_in l.set) (drop l.at l.bytes);
}

abbrev pub decreases-loop-at : goal.decreases-loop-at
decreases-loop-at l = l.at
