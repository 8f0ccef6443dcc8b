use Rattle.query_laws.proofs.Faults.{one_deep}
use Rattle.query_laws.proofs.one_depth_fault.Goals as goal

pub returns : goal.returns
returns c = one_deep
