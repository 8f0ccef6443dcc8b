use Rattle.std.proofs.Common.{◌≡◌, ◌+◌, drop}
use Rattle.std.specs.List.{prefix_len}
use Rattle.line_input.specs.Parts.{is_gap}
use Rattle.line_input.proofs.gap.Gap.gap_length.Given as goal

abbrev pub invariant-loop-byte : goal.invariant-loop-byte
invariant-loop-byte l = (l.count ≡ l.byte-index) × (l.byte-index + prefix_len (is_gap l.self) (drop l.byte-index l.bytes) ≡ prefix_len (is_gap l.self) l.bytes)
