use Rattle.std.proofs.Common.{Some, None, cond, sym, ap, ◌∙◌}
use Rattle.line_input.specs.Taken.{slots_of}
use Rattle.ncsa_input.specs.Lines.{line_fields}
use Rattle.ncsa_input.proofs.Rows.{row_is}
use Rattle.ncsa_input.proofs.row.take_row.Goals as goal

pub returns-in_ok-pad : goal.returns-in_ok-pad
returns-in_ok-pad c =
    let line = c.args.line.now in
    let found = c.read_fields.new.row in
    row_is line (line_fields line) found c.pad.new.row (ap (λ b. cond b (Some (slots_of line found)) None) (sym c.if-branch.true) ∙ c.in_ok-read_fields.ensures) (c.in_ok-pad.ensures line)
