use Rattle.std.proofs.Common.{◌≡◌, ◌-◌, ◌^◌, min, take, sum_by}
use Rattle.ledger.specs.Sizes.{span_length}
use Rattle.ledger.proofs.sizes.spans_size.Given as goal

abbrev pub invariant-loop-span : goal.invariant-loop-span
invariant-loop-span l = l.size ≡ min (sum_by span_length (take l.span-index l.spans)) (2 ^ 64 - 1)
