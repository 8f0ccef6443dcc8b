use Rattle.std.proofs.Common.{refl, sym, subst}
use Rattle.std.specs.Prelude.{All}
use Rattle.std.proofs.lemmas.Bool.{true≢false}
use Rattle.std.proofs.lemmas.List.{take_all}
use Rattle.std.proofs.lemmas.List.Elements.{All-more}
use Rattle.run_entry.specs.Forms.{IsOutput}
use Rattle.checkpointed_run.proofs.Tested.{one_fails}
use Rattle.checkpointed_run.proofs.fitting.are_outputs.Goals as goal

pub loop-output-preserved : goal.loop-output-preserved
loop-output-preserved c = All-more IsOutput c.args.outputs.now c.loop-output.output-index c.output-item.result c.loop-output-test.true c.loop-output.invariant (subst IsOutput c.output-item.is (c.is_output.ensures.0 c.if-not-is_output.false))

pub returns-then-not-is_output : goal.returns-then-not-is_output
returns-then-not-is_output c = (λ h. absurd (true≢false (sym h)), λ all. absurd (one_fails IsOutput c.args.outputs.now c.loop-output.output-index c.output-item.result c.is_output.result c.loop-output-test.true c.output-item.is c.is_output.ensures c.if-not-is_output.true all))

pub returns : goal.returns
returns c = (λ h. subst (All IsOutput) (take_all c.loop-output.output-index c.args.outputs.now c.loop-output-test.false) c.loop-output.invariant, λ all. refl)
