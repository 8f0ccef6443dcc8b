use Rattle.delimited_input.proofs.Cutting.{CutUpTo}
use Rattle.delimited_input.proofs.cut.cut_closed.Given as goal

abbrev pub invariant-loop : goal.invariant-loop
invariant-loop l = CutUpTo l.line l.separator l.quotes l.at l.counter l.row
