use Rattle.std.proofs.Common.{◌∙◌, arith}
use Rattle.lp_model.proofs.Growing.{OnlyGrow-trans}
use Rattle.log_listing.proofs.LengthLemmas.{lengths_step}
use Rattle.log_listing.proofs.lengths.lengths_of.Goals as goal

pub loop-name-preserved : goal.loop-name-preserved
loop-name-preserved g c =
    let so_far = c.loop-name.invariant in
    let here = c.in_ok-length.ensures in
    let later1 = so_far.later in
    let later2 = here.later in
    let whole = OnlyGrow-trans _ _ _ so_far.grows here.grows in
    record {
      grows = whole;
      given = here.given ∙ so_far.given;
      later = omega arith;
      items = so_far.items;
      lengths = lengths_step _ _ _ c.as_slice-name-items.result.now c.loop-name.name-index c.name-item.result c.loop-name.list c.push.new.self (record { name = c.copy.result; length = c.in_ok-length.length })
          c.loop-name-test.true c.name-item.is c.copy.ensures here.grows whole so_far.lengths here.ok here.bounded c.in_ok-push.ensures.ok;
    }
