use Rattle.std.proofs.Common.{sym, ap, ◌∙◌}
use Rattle.tpl_output.specs.Sections.{outside_from}
use Rattle.tpl_output.proofs.Scanning.{outside_next, outside_found, outside_none}
use Rattle.tpl_output.proofs.reading.outside_in.Goals as goal

pub loop-index-preserved : goal.loop-index-preserved
loop-index-preserved c =
    c.loop-index.invariant ∙ outside_next c.part_of-part.result.now c.args.from c.loop-index.index c.loop-index-test.true (sym c.is_blank.ensures ∙ c.if-not-is_blank.false)

pub returns-then-not-is_blank : goal.returns-then-not-is_blank
returns-then-not-is_blank c =
    sym (ap (outside_from c.args.from) (sym c.part_of-part.ensures) ∙ (c.loop-index.invariant ∙ outside_found c.part_of-part.result.now c.args.from c.loop-index.index c.loop-index-test.true (sym c.is_blank.ensures ∙ c.if-not-is_blank.true)))

pub returns : goal.returns
returns c =
    sym (ap (outside_from c.args.from) (sym c.part_of-part.ensures) ∙ (c.loop-index.invariant ∙ outside_none c.part_of-part.result.now c.args.from c.loop-index.index c.loop-index-test.false))
