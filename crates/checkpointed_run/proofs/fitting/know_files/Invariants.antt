use Rattle.std.proofs.Common.{All, take}
use Rattle.log_reading.specs.declared.span.Took.{Took}
use Rattle.run_entry.specs.Forms.{IsFileName}
use Rattle.checkpointed_run.proofs.fitting.know_files.Given as goal

abbrev pub invariant-loop-log : goal.invariant-loop-log
invariant-loop-log l = All (λ (log : Took). IsFileName log.identity) (take l.log-index l.took)
