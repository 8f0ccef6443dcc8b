use Rattle.std.proofs.Common.{◌∷◌, [], Some, length, map, ap, ◌∙◌, arith}
use Rattle.std.proofs.lemmas.List.{length-map}
use Rattle.line_input.specs.declared.gap.Gap.TheVariants.{Words}
use Rattle.line_input.specs.Parts.{is_gap, parts_by}
use Rattle.lp_model.specs.Reading.{rows}
use Rattle.line_input.proofs.Parting.{few_parts, parts_words}
use Rattle.line_input.proofs.text_words.TextWordsLineReader.take_line.Goals as goal

pub returns-clause-reading : goal.returns-clause-reading
returns-clause-reading c = ap rows (c.in_ok-rows.ensures ∙ ap (map (λ word. Some word ∷ [])) (parts_words c.args.line.now))

pub returns-clause-few : goal.returns-clause-few
returns-clause-few c =
    let parts = parts_by (is_gap Words) c.args.line.now in
    omega (arith, ap length c.in_ok-rows.ensures, length-map parts (λ word. Some word ∷ []), few_parts (is_gap Words) c.args.line.now)
