use Rattle.query_laws.proofs.Faults.{no_syntax, no_deep}
use Rattle.query_laws.proofs.queries_have_no_fault.Goals as goal

pub returns-clause-no_syntax_fault : goal.returns-clause-no_syntax_fault
returns-clause-no_syntax_fault c = no_syntax

pub returns-clause-no_depth_fault : goal.returns-clause-no_depth_fault
returns-clause-no_depth_fault c = no_deep
