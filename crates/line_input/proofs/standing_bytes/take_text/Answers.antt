use Rattle.line_input.proofs.Fronts.{text_unsized, text_short, text_strange}
use Rattle.line_input.proofs.standing_bytes.take_text.Goals as goal

pub returns-in-Err : goal.returns-in-Err
returns-in-Err c = text_strange c.args.bytes.now c.in-Some.behind.now c.in-Some-split_at_checked.front.now c.in-Some.size c.in-Some.ensures c.in-Some-split_at_checked.ensures.cases.1 c.in-Err.ensures.cases.0

pub returns-in-None-split_at_checked : goal.returns-in-None-split_at_checked
returns-in-None-split_at_checked c = text_short c.args.bytes.now c.in-Some.behind.now c.in-Some.size c.in-Some.ensures c.in-None-split_at_checked.ensures.cases

pub returns-in-None : goal.returns-in-None
returns-in-None c = text_unsized c.args.bytes.now c.in-None.ensures
