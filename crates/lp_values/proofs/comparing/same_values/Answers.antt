use Rattle.std.proofs.lemmas.Slice.Eq.{slice_eq-Decides}
use Rattle.lp_values.proofs.SameLemmas.{values_same}
use Rattle.lp_values.proofs.comparing.same_values.Goals as goal

pub returns : goal.returns
returns c = slice_eq-Decides values_same c.args.a.now c.args.b.now c.eq.result c.eq.ensures
