use Rattle.std.proofs.Common.{◌≡◌, ◌++◌, ◌∷◌, [], rules, ap, ◌∙◌}
use Rattle.lp_model.proofs.Results.{on_err}
use Rattle.lp_model.proofs.Buffers.{grows_joined, grows_in_piece, grows_along}
use Rattle.lp_model.proofs.CsvLemmas.{extends_joined}
use Rattle.text_formats.specs.Styles.{field_of, line_of}
use Rattle.text_formats.proofs.fields.add_names.Goals as goal

pub loop-index-preserved : goal.loop-index-preserved
loop-index-preserved c =
    let piece : c.add_field.new.to ≡ c.add_separator.new.to ++ field_of c.args.style c.name-item.result = search rules in
    extends_joined (field_of c.args.style) c.args.style.separator _ c.loop-index.index c.name-item.result _ _ _ _ c.loop-index-test.true c.name-item.is c.loop-index.invariant c.in_ok-add_separator.ensures.ok piece

pub returns-in_err-add_separator-clause-err : goal.returns-in_err-add_separator-clause-err
returns-in_err-add_separator-clause-err c =
    let items = c.as_slice-name-items.result.now in
    on_err _ c.from_residual.result
    (grows_along _ _ _ _ (ap (line_of c.args.style) c.as_slice-name-items.ensures)
    (grows_joined (field_of c.args.style) c.args.style.separator items c.loop-index.index c.args.to.now c.loop-index.to c.add_separator.new.to (10 ∷ []) c.loop-index.invariant c.in_err-add_separator.ensures.err))

pub returns-in_err-add_field-clause-err : goal.returns-in_err-add_field-clause-err
returns-in_err-add_field-clause-err c =
    let items = c.as_slice-name-items.result.now in
    on_err _ c.from_residual-in_err-add_field.result
    (grows_along _ _ _ _ (ap (line_of c.args.style) c.as_slice-name-items.ensures)
    (grows_in_piece (field_of c.args.style) c.args.style.separator items c.loop-index.index c.name-item.result c.args.to.now c.loop-index.to c.add_separator.new.to c.add_field.new.to (10 ∷ []) c.loop-index-test.true c.name-item.is
    c.loop-index.invariant c.in_ok-add_separator.ensures.ok (grows_along _ _ _ _ (ap (field_of c.args.style) (c.as_bytes.ensures.value ∙ c.as_str.ensures)) c.in_err-add_field.ensures.err)))
