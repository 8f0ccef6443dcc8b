use Rattle.std.proofs.Common.{◌≡◌, ◌-◌, ◌^◌, min, take, sum_by}
use Rattle.ledger.specs.Sizes.{list_length}
use Rattle.ledger.proofs.sizes.lists_size.Given as goal

abbrev pub invariant-loop-list : goal.invariant-loop-list
invariant-loop-list l = l.size ≡ min (sum_by list_length (take l.list-index l.lists)) (2 ^ 64 - 1)
