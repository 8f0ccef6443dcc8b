use Rattle.std.proofs.Common.{◌≡◌, ◌++◌, ◌∷◌, [], List, map, ap, sym, ◌∙◌, arith}
use Rattle.std.specs.List.{join_with_byte}
use Rattle.std.proofs.lemmas.Simd.{map-map}
use Rattle.std.proofs.lemmas.Grind.{common_steps}
use Rattle.lp_model.proofs.Results.{on_err}
use Rattle.lp_model.proofs.Buffers.{grows_joined, grows_in_piece, grows_along}
use Rattle.lp_model.proofs.CsvLemmas.{extends_joined}
use Rattle.lp_values.specs.Printed.{printed}
use Rattle.lp_values.specs.declared.value.Value.{Value}
use Rattle.text_formats.specs.declared.style.Style.{Style}
use Rattle.text_formats.specs.Styles.{field_of, line_of}
use Rattle.text_formats.proofs.fields.add_values.Goals as goal

-- a line of values, from the loop's own words
line_is : (style : Style) (values items : List Value) → items ≡ values → join_with_byte style.separator (map (λ value. field_of style (printed value)) items) ++ 10 ∷ [] ≡ line_of style (map printed values)
line_is style values items same =
    ap (λ t. join_with_byte style.separator t ++ 10 ∷ []) (ap (map (λ value. field_of style (printed value))) same ∙ sym (map-map (field_of style) printed values))

pub loop-index-preserved : goal.loop-index-preserved
loop-index-preserved c =
    extends_joined (λ value. field_of c.args.style (printed value)) c.args.style.separator _ c.loop-index.index c.value-item.result _ _ _ _ c.loop-index-test.true c.value-item.is c.loop-index.invariant c.in_ok-add_separator.ensures.ok c.in_ok-add_value.ensures.ok

pub returns-clause-ok : goal.returns-clause-ok
returns-clause-ok c =
    let m = map-map (field_of c.args.style) printed c.args.values.now in
    grind (arith, common_steps, m)

pub returns-in_err-add_separator-clause-err : goal.returns-in_err-add_separator-clause-err
returns-in_err-add_separator-clause-err c =
    let items = c.as_slice-value-items.result.now in
    on_err _ c.from_residual.result
    (grows_along _ _ _ _ (line_is c.args.style c.args.values.now items c.as_slice-value-items.ensures)
    (grows_joined (λ value. field_of c.args.style (printed value)) c.args.style.separator items c.loop-index.index c.args.to.now c.loop-index.to c.add_separator.new.to (10 ∷ []) c.loop-index.invariant c.in_err-add_separator.ensures.err))

pub returns-in_err-add_value-clause-err : goal.returns-in_err-add_value-clause-err
returns-in_err-add_value-clause-err c =
    let items = c.as_slice-value-items.result.now in
    on_err _ c.from_residual-in_err-add_value.result
    (grows_along _ _ _ _ (line_is c.args.style c.args.values.now items c.as_slice-value-items.ensures)
    (grows_in_piece (λ value. field_of c.args.style (printed value)) c.args.style.separator items c.loop-index.index c.value-item.result c.args.to.now c.loop-index.to c.add_separator.new.to c.add_value.new.to (10 ∷ []) c.loop-index-test.true c.value-item.is
    c.loop-index.invariant c.in_ok-add_separator.ensures.ok c.in_err-add_value.ensures.err))

pub returns-in_err-push-clause-err : goal.returns-in_err-push-clause-err
returns-in_err-push-clause-err c =
    let items = c.as_slice-value-items.result.now in
    on_err _ c.from_residual-in_err-push.result
    (grows_along _ _ _ _ (line_is c.args.style c.args.values.now items c.as_slice-value-items.ensures)
    (grows_joined (λ value. field_of c.args.style (printed value)) c.args.style.separator items c.loop-index.index c.args.to.now c.loop-index.to c.push.new.self (10 ∷ []) c.loop-index.invariant c.in_err-push.ensures.err))
