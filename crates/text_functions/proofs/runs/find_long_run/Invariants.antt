use Rattle.std.proofs.Common.{◌≤◌, ◌-◌, length}
use Rattle.text_functions.proofs.WindowLemmas.{NoStandBefore}
use Rattle.text_functions.proofs.runs.find_long_run.Given as goal

-- The run stands nowhere before the place from which the search goes on.
abbrev pub invariant-loop-at : goal.invariant-loop-at
invariant-loop-at l = record { within : l.at ≤ length l.text; none : NoStandBefore l.run l.text l.at }

abbrev pub decreases-loop-at : goal.decreases-loop-at
decreases-loop-at l = length l.text - l.at
