use Rattle.list_run.proofs.Alike.{kept_alike}
use Rattle.list_run.proofs.laws.listed_alike.Goals as goal

pub returns : goal.returns
returns c = kept_alike
