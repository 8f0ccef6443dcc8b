use Rattle.std.proofs.Common.{arith}
use Rattle.line_input.proofs.Fronts.{columns_break, names_gone}
use Rattle.line_input.proofs.standing_bytes.take_columns.Goals as goal

pub returns-in-Ok-None : goal.returns-in-Ok-None
returns-in-Ok-None c = columns_break c.args.bytes.now c.in-Some.behind.now c.in-Some.tag c.in-Some.ensures (omega (arith, c.if-tag-ne-SOME.false)) (names_gone (λ r. r.now) c.in-Some.behind.now c.in-Ok-None.field-0 c.in-Ok-None.field-0-is c.in-Ok-None.ensures)
