use Rattle.lp_outside.proofs.Gains.{gained_on}
use Rattle.lp_outside.proofs.gaining.gains_add.Goals as goal

pub returns : goal.returns
returns g c = λ output name base from at to one two f s. gained_on _ _ _ output name base from at to one two f s
