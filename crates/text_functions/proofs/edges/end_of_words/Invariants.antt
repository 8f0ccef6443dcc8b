use Rattle.std.proofs.Common.{◌≡◌, ◌≤◌, ◌+◌, length, take}
use Rattle.std.specs.List.{suffix_len}
use Rattle.text_functions.specs.Edges.{is_blank}
use Rattle.text_functions.proofs.edges.end_of_words.Given as goal

-- Blanks were passed.
abbrev pub invariant-loop-end : goal.invariant-loop-end
invariant-loop-end l = record { inside : l.end ≤ length l.bytes; blanks : l.end + suffix_len is_blank l.bytes ≡ length l.bytes + suffix_len is_blank (take l.end l.bytes) }

abbrev pub decreases-loop-end : goal.decreases-loop-end
decreases-loop-end l = l.end
