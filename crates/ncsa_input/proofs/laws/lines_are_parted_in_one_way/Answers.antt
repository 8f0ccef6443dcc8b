use Rattle.ncsa_input.proofs.Parting.{one_parting}
use Rattle.ncsa_input.proofs.laws.lines_are_parted_in_one_way.Goals as goal

pub returns : goal.returns
returns c = one_parting
