use Rattle.std.proofs.Common.{sym, ◌∙◌}
use Rattle.tpl_output.proofs.Digits.{mark_next, mark_ended, mark_nowhere}
use Rattle.tpl_output.proofs.marking.mark_in.Goals as goal

pub returns-in-Some-clause-value : goal.returns-in-Some-clause-value
returns-in-Some-clause-value c =
    sym (c.loop-at.invariant ∙ mark_ended c.args.names.now c.args.body c.args.text.now c.loop-at.at c.in-Some.found c.loop-at-test.true (sym c.ended_mark.ensures.value ∙ c.in-Some.is))

pub loop-at-preserved : goal.loop-at-preserved
loop-at-preserved c = c.loop-at.invariant ∙ mark_next c.args.names.now c.args.body c.args.text.now c.loop-at.at c.loop-at-test.true (sym c.ended_mark.ensures.value ∙ c.in_default.is)

pub returns-clause-value : goal.returns-clause-value
returns-clause-value c = sym (c.loop-at.invariant ∙ mark_nowhere c.args.names.now c.args.body c.args.text.now c.loop-at.at c.loop-at-test.false)
