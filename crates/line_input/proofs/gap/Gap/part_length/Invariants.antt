use Rattle.std.proofs.Common.{◌≡◌, ◌+◌, drop}
use Rattle.std.specs.List.{position_or_len}
use Rattle.line_input.specs.Parts.{is_gap}
use Rattle.line_input.proofs.gap.Gap.part_length.Given as goal

abbrev pub invariant-loop-byte : goal.invariant-loop-byte
invariant-loop-byte l = (l.count ≡ l.byte-index) × (l.byte-index + position_or_len (is_gap l.self) (drop l.byte-index l.bytes) ≡ position_or_len (is_gap l.self) l.bytes)
