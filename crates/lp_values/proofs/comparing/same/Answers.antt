use Rattle.lp_values.proofs.SameLemmas.{values_told}
use Rattle.lp_values.proofs.comparing.same.Goals as goal

pub returns : goal.returns
returns c = values_told c.args.a.now c.args.b.now c.eq.result c.eq.ensures
