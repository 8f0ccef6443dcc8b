use Rattle.std.proofs.Common.{◌∙◌, ap, sym, Ok, List, [], ◌∷◌}
use Rattle.query_tree.specs.Views.{placed_of}
use Rattle.lp_time.specs.Readings.{pattern_part, seconds_in}
use Rattle.lp_values.specs.declared.value.Value.{Value}
use Rattle.lp_values.specs.declared.value.Value.TheVariants as V
use Rattle.slot_reading.specs.Stamps.{stamp_value}
use Rattle.slot_reading.proofs.StampLemmas.{stamp_value-at}
use Rattle.query_types.specs.Meanings.{said, stamp_read}
use Rattle.query_types.specs.Terms.{constant}
use Rattle.query_types.proofs.stamps.stamp_read.Goals as goal

pub returns-in_ok-said_by_two-in-Some : goal.returns-in_ok-said_by_two-in-Some
returns-in_ok-said_by_two-in-Some c =
    let pattern = c.args.pattern.now in
    let value = placed_of c.args.value.now in
    let text = placed_of c.args.text.now in
    ap (λ t. stamp_read value text (pattern_part pattern) (seconds_in pattern t)) (sym c.as_str.ensures)
    ∙ ap (stamp_read value text (pattern_part pattern)) (sym c.in-Some.ensures.seconds)
    ∙ ap (λ (v : Value). Ok (said v (constant (V.Text value.text) ∷ constant (V.Text text.text) ∷ []))) (sym (stamp_value-at c.in-Some.stamp (pattern_part pattern) c.in-Some.ensures.part))
    ∙ ap Ok (sym c.in_ok-said_by_two-in-Some.ensures)
