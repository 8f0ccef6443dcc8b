use Rattle.execution.proofs.Forbidding.{forbids}
use Rattle.execution.specs.Outputs.{own_names}
use Rattle.execution.proofs.outputs.outputs_beside.Goals as goal

pub loop-log-preserved : goal.loop-log-preserved
loop-log-preserved c = record {
  items = c.loop-log.invariant.items;
  outputs = forbids c.args.pattern.now (own_names c.args.checkpoint.now) c.as_slice-log-items.result.now c.loop-log.log-index c.log-item.result c.loop-log.outputs c.forbid_log.new.outputs c.loop-log-test.true c.log-item.is c.loop-log.invariant.outputs c.in_ok-forbid_log.ensures;
}
