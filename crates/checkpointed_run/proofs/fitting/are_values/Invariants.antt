use Rattle.std.proofs.Common.{All, take}
use Rattle.run_entry.specs.Forms.{IsKeptValue}
use Rattle.checkpointed_run.proofs.fitting.are_values.Given as goal

abbrev pub invariant-loop-value : goal.invariant-loop-value
invariant-loop-value l = All IsKeptValue (take l.value-index l.values)
