use Rattle.delimited_input.specs.Lines.{fields_in}
use Rattle.delimited_input.proofs.Rows.{whole_row}
use Rattle.delimited_input.proofs.row.take_row.Goals as goal

pub returns : goal.returns
returns c =
    let line = c.args.line.now in
    whole_row line (fields_in c.args.options line) c.args.many c.cut_line.new.row c.pad.new.row c.in_ok-all.all c.in_ok-all.ensures c.if-not-all.false (c.in_ok-pad.ensures line)
