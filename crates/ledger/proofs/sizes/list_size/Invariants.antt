use Rattle.std.proofs.Common.{◌≡◌, ◌+◌, ◌-◌, ◌^◌, min, take, sum_by}
use Rattle.ledger.specs.Sizes.{value_length}
use Rattle.ledger.proofs.sizes.list_size.Given as goal

abbrev pub invariant-loop-value : goal.invariant-loop-value
invariant-loop-value l = l.size ≡ min (8 + sum_by value_length (take l.value-index l.list)) (2 ^ 64 - 1)
