use Rattle.std.proofs.Common.{◌≡◌, ◌+◌, ◌-◌, length, drop, option_map}
use Rattle.ncsa_input.specs.Shapes.{closing}
use Rattle.ncsa_input.proofs.pieces.closing.Given as goal

abbrev pub invariant-loop-at : goal.invariant-loop-at
invariant-loop-at l = closing l.text ≡ option_map (λ n. l.at + n) (closing (drop l.at l.text))

abbrev pub decreases-loop-at : goal.decreases-loop-at
decreases-loop-at l = length l.initial.text - l.at
