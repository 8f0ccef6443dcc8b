use Rattle.std.proofs.Common.{◌≡◌, ◌-◌, ◌^◌, min, take, sum_by}
use Rattle.ledger.specs.Sizes.{text_length}
use Rattle.ledger.proofs.sizes.words_size.Given as goal

abbrev pub invariant-loop-word : goal.invariant-loop-word
invariant-loop-word l = l.size ≡ min (sum_by text_length (take l.word-index l.words)) (2 ^ 64 - 1)
