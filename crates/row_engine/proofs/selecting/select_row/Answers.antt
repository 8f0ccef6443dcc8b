use Rattle.std.proofs.Common.{◌∙◌, ◌+◌, ap, get_or, false, sym}
use Rattle.row_engine.specs.Uses.{last_uses}
use Rattle.row_engine.proofs.Uses.{left_behind, selected_more, value_left}
use Rattle.row_engine.proofs.selecting.select_row.Goals as goal

pub loop-item-preserved : goal.loop-item-preserved
loop-item-preserved c =
    let first = c.args.row.now in
    let row = c.loop-item.row in
    let items = c.as_slice-item-items.result.now in
    let i = c.loop-item.item-index in
    let item = c.item-item.result in
    let so_far = c.loop-item.invariant in
    let here = c.loop-item-test.true in
    let is_last = c.is_last.ensures ∙ (ap (λ n. get_or c.args.uses.now n false) so_far.at ∙ (ap (λ u. get_or u i false) c.requires ∙ ap (λ its. get_or (last_uses its) i false) (sym c.as_slice-item-items.ensures))) in
    record {
      at = ap (λ n. n + 1) so_far.at;
      taken = selected_more first items i item c.loop-item.to c.push.new.self c.in_ok-value.value here c.item-item.is c.in_ok-push.ensures.ok so_far.taken (c.in_ok-value.ensures.value ∙ value_left first row items i item here c.item-item.is so_far.left);
      left = left_behind first row c.taken.new.row items i item c.is_last.result here c.item-item.is is_last so_far.left c.in_ok-value.ensures.others;
    }
