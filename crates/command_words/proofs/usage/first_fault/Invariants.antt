use Rattle.std.proofs.Common.{◌≡◌, ℕ, ◌<◌, None}
use Rattle.command_words.specs.Usage.{fault_at}
use Rattle.command_words.proofs.usage.first_fault.Given as goal

abbrev pub invariant-loop-index : goal.invariant-loop-index
invariant-loop-index l = (at : ℕ) → at < l.index → fault_at l.words at ≡ None
