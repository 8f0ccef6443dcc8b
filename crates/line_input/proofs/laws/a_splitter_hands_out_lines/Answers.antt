use Rattle.std.proofs.Common.{◌++◌, ap}
use Rattle.lp_model.specs.Lines.{lines_to_come}
use Rattle.line_input.proofs.Coming.{hands_lines, hands_last_line}
use Rattle.line_input.proofs.laws.a_splitter_hands_out_lines.Goals as goal

pub returns : goal.returns
returns c = record {
  next = hands_lines;
  rest = hands_last_line;
  all = λ split waits more start. ap (λ place. lines_to_come waits 1 place (split.left ++ more)) start;
}
