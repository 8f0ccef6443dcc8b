use Rattle.std.proofs.Common.{◌≡◌, ◌≤◌, ◌-◌, length, drop}
use Rattle.lp_time.specs.Patterns.{pattern_in, pieces_from}
use Rattle.lp_time.proofs.pattern.Pattern.read.Given as goal

-- What is left gives what the text gives.
abbrev pub invariant-loop-at : goal.invariant-loop-at
invariant-loop-at l = record {
  within : l.at ≤ length l.bytes;
  room : length l.pattern ≤ 64;
  left : pattern_in l.bytes ≡ pieces_from (64 - length l.pattern) l.pattern l.at (drop l.at l.bytes);
}

abbrev pub decreases-loop-at : goal.decreases-loop-at
decreases-loop-at l = length l.bytes - l.at
