use Rattle.std.proofs.Common.{◌∙◌, ◌+◌, ◌++◌, ap, sym, drop, ℕ, List, Some}
use Rattle.column_kinds.specs.Fields.{field_for, field_in, indexed, place_for, text_of}
use Rattle.column_kinds.specs.Kept.{found_in}
use Rattle.column_kinds.proofs.Steps.{indexed_step}
use Rattle.column_kinds.proofs.judging.texts_under.Goals as goal

pub loop-column-preserved : goal.loop-column-preserved
loop-column-preserved c =
    let first = c.args.first.now in
    let row = c.args.row.now in
    let make : ℕ → List ℕ → List ℕ = λ at name. text_of (field_for (Some first.identity) (found_in row) at name) in
    let items = c.as_slice-column-items.result.now in
    let i = c.loop-column.column-index in
    let name = c.column-item.result in
    let same = c.loop-column.invariant.at in
    let made = (c.in_ok-text.ensures ∙ ap (λ (t : List ℕ). text_of (field_in (found_in row).row.slots (place_for c.is-is_of_first.result row.columns c.loop-column.at t))) c.name.ensures)
    ∙ (ap (λ b. text_of (field_in (found_in row).row.slots (place_for b row.columns c.loop-column.at name))) c.is-is_of_first.ensures
    ∙ ap (λ n. make n name) same) in
    record {
      at = ap (λ n. n + 1) same;
      texts = c.loop-column.invariant.texts
          ∙ (indexed_step make items i name c.loop-column.texts c.in_ok-text.text c.loop-column-test.true c.column-item.is made
          ∙ ap (λ front. front ++ indexed make (i + 1) (drop (i + 1) items)) (sym c.in_ok-push.ensures.ok));
    }
