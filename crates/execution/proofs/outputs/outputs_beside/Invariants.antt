use Rattle.std.proofs.Common.{◌≡◌, take}
use Rattle.execution.proofs.Forbidding.{outputs_with}
use Rattle.execution.specs.Outputs.{own_names}
use Rattle.execution.proofs.outputs.outputs_beside.Given as goal

-- the names of the logs so far are forbidden
abbrev pub invariant-loop-log : goal.invariant-loop-log
invariant-loop-log l = record {
  items : l.log-items ≡ l.logs;
  outputs : l.outputs ≡ outputs_with l.pattern (own_names l.checkpoint) (take l.log-index l.log-items);
}
