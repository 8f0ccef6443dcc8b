use Rattle.ncsa_input.proofs.Parting.{read_formed}
use Rattle.ncsa_input.proofs.laws.lines_that_are_read_are_formed.Goals as goal

pub returns : goal.returns
returns c = read_formed
