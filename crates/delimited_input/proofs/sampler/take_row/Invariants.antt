use Rattle.delimited_input.proofs.Telling.{ToldUpTo}
use Rattle.delimited_input.proofs.sampler.take_row.Given as goal

abbrev pub invariant-loop-column : goal.invariant-loop-column
invariant-loop-column l = ToldUpTo l.pattern l.row l.fn.tallies l.column l.tallies
