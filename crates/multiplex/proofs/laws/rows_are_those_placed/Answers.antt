use Rattle.multiplex.proofs.Splits.{rows_by_index}
use Rattle.multiplex.proofs.laws.rows_are_those_placed.Goals as goal

pub returns : goal.returns
returns c = rows_by_index
