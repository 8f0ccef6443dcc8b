use Rattle.std.proofs.Common.{◌≡◌, ◌-◌, ◌++◌, ℕ, List, length, replicate, None}
use Rattle.line_input.specs.Taken.{slots_of}
use Rattle.delimited_input.proofs.row.pad.Given as goal

abbrev pub invariant-loop-row : goal.invariant-loop-row
invariant-loop-row l = (line : List ℕ) → slots_of line l.row ++ replicate (l.many - length l.row) None ≡ slots_of line l.initial.row ++ replicate (l.many - length l.initial.row) None

abbrev pub decreases-loop-row : goal.decreases-loop-row
decreases-loop-row l = l.many - length l.row
