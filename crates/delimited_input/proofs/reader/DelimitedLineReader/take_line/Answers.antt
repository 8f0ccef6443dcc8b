use Rattle.std.proofs.Common.{◌≡◌, false, sym, ap, ◌∙◌, rules}
use Rattle.std.proofs.lemmas.Result.{IfOk-weaker, on_ok_weaker}
use Rattle.line_input.specs.Taken.{reading_in}
use Rattle.delimited_input.specs.Lines.{is_empty, is_broken, fields_in, filled_reading}
use Rattle.delimited_input.specs.Setting.{filled_columns}
use Rattle.delimited_input.specs.declared.options.DelimitedOptions.{DelimitedOptions}
use Rattle.delimited_input.proofs.Carrying.{empty_reading, empty_columns, empty_step, broken_reading, broken_columns, broken_step, filled_is, filled_behind, filled_step, few_rows}
use Rattle.delimited_input.proofs.reader.DelimitedLineReader.take_line.Goals as goal

pub returns-then-is_empty-clause-reading : goal.returns-then-is_empty-clause-reading
returns-then-is_empty-clause-reading c = empty_reading c.args.self.now c.args.line.now c.args.standing.now.columns (sym c.is_empty.ensures ∙ c.if-is_empty.true)

pub returns-then-is_empty-clause-columns : goal.returns-then-is_empty-clause-columns
returns-then-is_empty-clause-columns c =
    empty_columns c.args.self.now c.args.line.now c.args.standing.now.columns c.pass_line.new.self.columns (sym c.is_empty.ensures ∙ c.if-is_empty.true) c.pass_line.ensures.columns

pub returns-then-is_empty-clause-step : goal.returns-then-is_empty-clause-step
returns-then-is_empty-clause-step c =
    empty_step c.args.self.now c.args.line.now c.args.standing.now.columns c.pass_line.new.self.columns (sym c.is_empty.ensures ∙ c.if-is_empty.true) c.pass_line.ensures.columns

pub returns-then-is_broken-clause-reading : goal.returns-then-is_broken-clause-reading
returns-then-is_broken-clause-reading c =
    broken_reading c.args.self.now c.args.line.now c.args.standing.now.columns (sym c.is_empty.ensures ∙ c.if-is_empty.false) (sym c.is_broken.ensures ∙ c.if-is_broken.true)

pub returns-then-is_broken-clause-columns : goal.returns-then-is_broken-clause-columns
returns-then-is_broken-clause-columns c =
    broken_columns c.args.self.now c.args.line.now c.args.standing.now.columns c.pass_line-then-is_broken.new.self.columns (sym c.is_empty.ensures ∙ c.if-is_empty.false) (sym c.is_broken.ensures ∙ c.if-is_broken.true) c.pass_line-then-is_broken.ensures.columns

pub returns-then-is_broken-clause-step : goal.returns-then-is_broken-clause-step
returns-then-is_broken-clause-step c =
    broken_step c.args.self.now c.args.line.now c.args.standing.now.columns c.pass_line-then-is_broken.new.self.columns (sym c.is_empty.ensures ∙ c.if-is_empty.false) (sym c.is_broken.ensures ∙ c.if-is_broken.true) c.pass_line-then-is_broken.ensures.columns

pub returns : goal.returns
returns c =
    let line = c.args.line.now in
    let old = c.args.standing.now.columns in
    let new = c.take_filled.new.standing.columns in
    let filled : is_empty line ≡ false = sym c.is_empty.ensures ∙ c.if-is_empty.false in
    let whole : is_broken line ≡ false = sym c.is_broken.ensures ∙ c.if-is_broken.false in
    let same : c.self.inside.options ≡ c.args.self.now = search rules in
    record {
      reading = IfOk-weaker c.take_filled.result _ _ (λ taken told. told ∙ (ap (λ (o : DelimitedOptions). filled_reading o (fields_in o line) old) same ∙ filled_is c.args.self.now line old filled whole)) c.take_filled.ensures.reading;
      few = IfOk-weaker c.take_filled.result _ _ (λ taken told. few_rows c.self.inside.options line (reading_in line c.take_filled.new.row taken) (fields_in c.self.inside.options line) old told) c.take_filled.ensures.reading;
      lines = c.take_filled.ensures.lines;
      columns = on_ok_weaker c.take_filled.result (λ told. filled_behind c.args.self.now line old new filled whole (told ∙ ap (λ (o : DelimitedOptions). filled_columns o (fields_in o line) old) same)) c.take_filled.ensures.columns;
      step = on_ok_weaker c.take_filled.result (λ told. filled_step c.args.self.now line old new filled whole (told ∙ ap (λ (o : DelimitedOptions). filled_columns o (fields_in o line) old) same)) c.take_filled.ensures.columns;
      err = c.take_filled.ensures.err;
    }
