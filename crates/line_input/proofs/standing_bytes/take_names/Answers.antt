use Rattle.std.proofs.Common.{arith}
use Rattle.std.proofs.lemmas.Result.{IfOk-weaker}
use Rattle.line_input.proofs.Fronts.{count_short, count_great, counted_found}
use Rattle.line_input.proofs.standing_bytes.take_names.Goals as goal

pub returns-then-count-gt-MOST : goal.returns-then-count-gt-MOST
returns-then-count-gt-MOST c = count_great c.args.bytes.now c.in-Some.behind.now c.in-Some.count c.in-Some.ensures c.if-count-gt-MOST.true

pub returns-else-count-gt-MOST : goal.returns-else-count-gt-MOST
returns-else-count-gt-MOST c = IfOk-weaker c.take_texts.result _ _ (λ found is. counted_found (λ r. r.now) c.args.bytes.now c.in-Some.behind.now c.in-Some.count found c.in-Some.ensures (omega (arith, c.if-count-gt-MOST.false)) is) c.take_texts.ensures

pub returns-in-None : goal.returns-in-None
returns-in-None c = count_short c.args.bytes.now c.in-None.ensures
