use Rattle.delimited_input.proofs.Written.{read_back}
use Rattle.delimited_input.proofs.laws.written_fields_are_read.Goals as goal

pub returns : goal.returns
returns c = read_back
