use Rattle.positions.proofs.ReadTo.{are_listed}
use Rattle.positions.proofs.laws.spans_are_listed.Goals as goal

pub returns : goal.returns
returns c = are_listed
