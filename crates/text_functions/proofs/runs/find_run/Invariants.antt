use Rattle.std.proofs.Common.{◌≡◌, ◌≤◌, ◌-◌, length}
use Rattle.text_functions.proofs.StandLemmas.{IsSought, NoneBefore}
use Rattle.text_functions.proofs.runs.find_run.Given as goal

-- The run stands nowhere with its left byte before the place from which the search goes on.
abbrev pub invariant-loop-place : goal.invariant-loop-place
invariant-loop-place l = record {
  sought : IsSought l.run l.pairs.first l.pairs.second l.left l.right;
  apart : l.pairs.apart ≡ l.right - l.left;
  bytes : l.pairs.bytes ≡ l.text;
  from : l.left ≤ l.pairs.at;
  within : l.pairs.at ≤ length l.text;
  none : NoneBefore l.run l.text l.left l.pairs.at;
}

abbrev pub decreases-loop-place : goal.decreases-loop-place
decreases-loop-place l = length l.text - l.pairs.at
