use Rattle.std.proofs.lemmas.Result.{IfOk-weaker, on_ok_weaker}
use Rattle.line_input.specs.Taken.{reading_in}
use Rattle.delimited_input.specs.Lines.{fields_in}
use Rattle.delimited_input.proofs.First.{header_columns, row_first, row_columns}
use Rattle.delimited_input.proofs.reader.take_first.Goals as goal

pub returns-then-options-clause-columns : goal.returns-then-options-clause-columns
returns-then-options-clause-columns c =
    on_ok_weaker c.take_header.result (header_columns c.args.options c.args.line.now (fields_in c.args.options c.args.line.now) c.cut_line.new.row c.in_ok-all.all c.in_ok-all.ensures c.args.standing.now.columns c.take_header.new.standing.columns c.if-options.true) c.take_header.ensures.columns

pub returns-else-options-clause-reading : goal.returns-else-options-clause-reading
returns-else-options-clause-reading c =
    IfOk-weaker c.take_first_row.result _ _ (λ taken told. row_first c.args.options c.args.line.now (fields_in c.args.options c.args.line.now) c.cut_line.new.row c.in_ok-all.all c.in_ok-all.ensures (reading_in c.args.line.now c.cut_line.new.row taken) c.if-options.false (told c.args.line.now)) c.take_first_row.ensures.reading

pub returns-else-options-clause-columns : goal.returns-else-options-clause-columns
returns-else-options-clause-columns c =
    on_ok_weaker c.take_first_row.result (row_columns c.args.options c.args.line.now (fields_in c.args.options c.args.line.now) c.cut_line.new.row c.in_ok-all.all c.in_ok-all.ensures c.args.standing.now.columns c.take_first_row.new.standing.columns c.if-options.false) c.take_first_row.ensures.columns
