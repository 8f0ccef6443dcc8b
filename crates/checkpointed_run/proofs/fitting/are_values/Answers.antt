use Rattle.std.proofs.Common.{refl, sym, subst}
use Rattle.std.specs.Prelude.{All}
use Rattle.std.proofs.lemmas.Bool.{true≢false}
use Rattle.std.proofs.lemmas.List.{take_all}
use Rattle.std.proofs.lemmas.List.Elements.{All-more}
use Rattle.run_entry.specs.Forms.{IsKeptValue}
use Rattle.checkpointed_run.proofs.Tested.{one_fails}
use Rattle.checkpointed_run.proofs.fitting.are_values.Goals as goal

pub loop-value-preserved : goal.loop-value-preserved
loop-value-preserved c = All-more IsKeptValue c.args.values.now c.loop-value.value-index c.value-item.result c.loop-value-test.true c.loop-value.invariant (subst IsKeptValue c.value-item.is (c.is_value.ensures.0 c.if-not-is_value.false))

pub returns-then-not-is_value : goal.returns-then-not-is_value
returns-then-not-is_value c = (λ h. absurd (true≢false (sym h)), λ all. absurd (one_fails IsKeptValue c.args.values.now c.loop-value.value-index c.value-item.result c.is_value.result c.loop-value-test.true c.value-item.is c.is_value.ensures c.if-not-is_value.true all))

pub returns : goal.returns
returns c = (λ h. subst (All IsKeptValue) (take_all c.loop-value.value-index c.args.values.now c.loop-value-test.false) c.loop-value.invariant, λ all. refl)
