use Rattle.checkpointed_run.proofs.Values.{stamp_kept}
use Rattle.checkpointed_run.proofs.fitting.know_stamp.Goals as goal

pub returns : goal.returns
returns c = stamp_kept c.args.stamp.now.part c.args.stamp.now.seconds c.args.stamp.now.exists
