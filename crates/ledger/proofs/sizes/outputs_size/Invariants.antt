use Rattle.std.proofs.Common.{◌≡◌, ◌-◌, ◌^◌, min, take, sum_by}
use Rattle.ledger.specs.Sizes.{output_length}
use Rattle.ledger.proofs.sizes.outputs_size.Given as goal

abbrev pub invariant-loop-output : goal.invariant-loop-output
invariant-loop-output l = l.size ≡ min (sum_by output_length (take l.output-index l.outputs)) (2 ^ 64 - 1)
