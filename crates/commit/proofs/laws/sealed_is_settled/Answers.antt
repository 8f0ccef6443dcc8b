use Rattle.commit.proofs.Composing.{settled_of}
use Rattle.commit.proofs.laws.sealed_is_settled.Goals as goal

pub returns : goal.returns
returns g c = λ entry entries before after is. settled_of _ _ _ _ entry entries before after is.0
