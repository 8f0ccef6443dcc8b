use Rattle.ncsa_input.proofs.Parting.{passed_spaces, others_bad}
use Rattle.ncsa_input.proofs.laws.other_lines_are_passed_or_bad.Goals as goal

pub returns : goal.returns
returns c = record { passed = passed_spaces; bad = others_bad }
