use Rattle.std.proofs.Common.{◌+◌, ◌++◌, ◌∷◌, [], ℕ, List, map, sym, ap, ◌∙◌, arith}
use Rattle.std.specs.List.{range_with_len}
use Rattle.std.proofs.lemmas.List.FromFn.{map-range_with_len_more}
use Rattle.lp_model.specs.Reading.{Columns}
use Rattle.delimited_input.specs.Names.{made_name, made_names}
use Rattle.delimited_input.proofs.header.made_names.Goals as goal

pub loop-place-preserved : goal.loop-place-preserved
loop-place-preserved c =
    (c.in_ok-push.ensures.ok ∙ ap (λ (name : List ℕ). c.loop-place.names ++ name ∷ []) c.new.ensures)
    ∙ (ap (λ (names : Columns). names ++ c.in_ok-made_name.field-0 ∷ []) c.loop-place.invariant
    ∙ (ap (λ name. map made_name (range_with_len 1 c.loop-place.place) ++ name ∷ []) c.in_ok-made_name.ensures
    ∙ sym (map-range_with_len_more made_name 1 c.loop-place.place (c.loop-place.place + 1) (omega arith))))

pub returns : goal.returns
unfolding made_names
returns c = c.loop-place.invariant ∙ ap (λ n. map made_name (range_with_len 1 n)) (omega (arith, c.loop-place-test.false, c.loop-place.auto.place-end))
