use Rattle.std.proofs.Common.{◌≡◌, ◌≢◌, ℕ, List, vec_len}
use Rattle.memory_outside.specs.Files.{folder_of}
use Rattle.memory_outside.proofs.files.remove.Given as goal

-- files of other names stay
abbrev pub invariant-loop-index : goal.invariant-loop-index
invariant-loop-index l = (other : List ℕ) → other ≢ l.name → folder_of l.files.items other ≡ folder_of l.initial.files.items other

abbrev pub decreases-loop-index : goal.decreases-loop-index
decreases-loop-index l = vec_len l.files
