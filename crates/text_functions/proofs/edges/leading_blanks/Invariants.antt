use Rattle.std.proofs.Common.{◌≡◌, ◌+◌, drop}
use Rattle.std.specs.List.{prefix_len}
use Rattle.text_functions.specs.Edges.{is_blank}
use Rattle.text_functions.proofs.edges.leading_blanks.Given as goal

-- Blanks were passed.
abbrev pub invariant-loop-place : goal.invariant-loop-place
invariant-loop-place l = prefix_len is_blank l.bytes ≡ l.place + prefix_len is_blank (drop l.place l.bytes)
