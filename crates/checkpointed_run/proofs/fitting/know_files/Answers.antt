use Rattle.std.proofs.Common.{subst}
use Rattle.std.specs.Prelude.{All}
use Rattle.std.proofs.lemmas.List.{take_all}
use Rattle.std.proofs.lemmas.List.Elements.{All-more}
use Rattle.log_reading.specs.declared.span.Took.{Took}
use Rattle.run_entry.specs.Forms.{IsFileName}
use Rattle.checkpointed_run.proofs.fitting.know_files.Goals as goal

pub loop-log-preserved : goal.loop-log-preserved
loop-log-preserved c = All-more (λ (log : Took). IsFileName log.identity) c.args.took.now c.loop-log.log-index c.log-item.result c.loop-log-test.true c.loop-log.invariant (subst (λ (log : Took). IsFileName log.identity) c.log-item.is (c.know_file.ensures))

pub returns : goal.returns
returns c = subst (All (λ (log : Took). IsFileName log.identity)) (take_all c.loop-log.log-index c.args.took.now c.loop-log-test.false) c.loop-log.invariant
