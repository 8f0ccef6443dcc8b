use Rattle.query_laws.proofs.Faults.{one_syntax}
use Rattle.query_laws.proofs.one_syntax_fault.Goals as goal

pub returns : goal.returns
returns c = one_syntax
