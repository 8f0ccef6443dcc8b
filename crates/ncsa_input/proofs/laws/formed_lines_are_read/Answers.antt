use Rattle.ncsa_input.proofs.Parting.{formed_read}
use Rattle.ncsa_input.proofs.laws.formed_lines_are_read.Goals as goal

pub returns : goal.returns
returns c = formed_read
