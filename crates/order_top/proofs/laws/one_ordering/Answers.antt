use Rattle.order_top.specs.Finish.{precedes}
use Rattle.order_top.proofs.Law.{ordered_sorted, ordered_stable, one_ordering}
use Rattle.order_top.proofs.Values.{rows_ranked}
use Rattle.order_top.proofs.laws.one_ordering.Goals as goal

pub returns-clause-ordering : goal.returns-clause-ordering
returns-clause-ordering c = λ finish rows. (ordered_sorted (precedes finish) (rows_ranked finish) rows, ordered_stable (precedes finish) (rows_ranked finish) rows)

pub returns-clause-only : goal.returns-clause-only
returns-clause-only c = λ finish rows others is. one_ordering (precedes finish) (rows_ranked finish) rows others is.0 is.1
