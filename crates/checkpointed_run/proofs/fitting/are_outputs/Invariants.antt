use Rattle.std.proofs.Common.{All, take}
use Rattle.run_entry.specs.Forms.{IsOutput}
use Rattle.checkpointed_run.proofs.fitting.are_outputs.Given as goal

abbrev pub invariant-loop-output : goal.invariant-loop-output
invariant-loop-output l = All IsOutput (take l.output-index l.outputs)
