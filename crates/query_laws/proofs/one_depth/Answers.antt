use Rattle.query_laws.proofs.Faults.{one_depth}
use Rattle.query_laws.proofs.one_depth.Goals as goal

pub returns : goal.returns
returns c = one_depth
