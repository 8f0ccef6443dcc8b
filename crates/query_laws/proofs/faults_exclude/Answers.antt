use Rattle.query_laws.proofs.Faults.{never_both}
use Rattle.query_laws.proofs.faults_exclude.Goals as goal

pub returns : goal.returns
returns c = never_both
