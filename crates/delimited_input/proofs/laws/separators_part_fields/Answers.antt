use Rattle.std.proofs.Common.{true, false, sym}
use Rattle.delimited_input.proofs.Agreeing.{parts_are}
use Rattle.delimited_input.proofs.laws.separators_part_fields.Goals as goal

pub returns : goal.returns
returns c = record {
  without = λ separator line. sym (parts_are separator false line (λ quoted. absurd cc));
  unquoted = λ separator line plain. sym (parts_are separator true line (λ quoted. plain));
}
