use Rattle.tpl_output.proofs.Scanning.{tags_next, tags_all}
use Rattle.tpl_output.proofs.tagging.tags_of.Goals as goal

pub loop-at-preserved : goal.loop-at-preserved
loop-at-preserved c = tags_next c.args.text.now c.loop-at.at c.loop-at.tags c.note_tag.new.tags c.bytes_from.result.now c.loop-at-test.true c.loop-at.invariant c.bytes_from.ensures c.in_ok-note_tag.ensures

pub returns : goal.returns
returns c = tags_all c.args.text.now c.loop-at.at c.loop-at.tags c.loop-at-test.false c.loop-at.invariant
