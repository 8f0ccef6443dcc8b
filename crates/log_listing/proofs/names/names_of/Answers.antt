use Rattle.std.proofs.Common.{◌∙◌, sym, subst, arith}
use Rattle.std.proofs.lemmas.Result.{err_from_is_err_and}
use Rattle.lp_model.proofs.Growing.{OnlyGrow-trans}
use Rattle.log_listing.specs.declared.fault.ListFault.{ListFault}
use Rattle.log_listing.specs.Listed.{Stops}
use Rattle.log_listing.proofs.Grown.{lists_step, stops_step}
use Rattle.log_listing.proofs.names.names_of.Goals as goal

pub returns-in_err-add_text-clause-stops : goal.returns-in_err-add_text-clause-stops
returns-in_err-add_text-clause-stops g c =
    let p = err_from_is_err_and c.from_residual.result c.from_residual.ensures.1 in
    let so_far = c.loop-text.invariant in
    let here = c.in_err-add_text.ensures in
    let items = c.as_slice-text-items.ensures in
    rw p.1 (rw (← items) (subst (λ (fault : ListFault). Stops (g.L.Logs.folder c.add_text.new.logs) c.as_slice-text-items.result.now fault) (sym p.2)
    (stops_step _ _ c.as_slice-text-items.result.now c.loop-text.text-index c.text-item.result c.as_str.result.now c.loop-text.listing.names c.in_err-add_text.field-0.0
    c.loop-text-test.true c.text-item.is c.as_str.ensures here.grows so_far.lists so_far.few here.stops)))

pub loop-text-preserved : goal.loop-text-preserved
loop-text-preserved g c =
    let so_far = c.loop-text.invariant in
    let here = c.in_ok-add_text.ensures in
    let later1 = so_far.later in
    let later2 = here.later in
    record {
      grows = OnlyGrow-trans _ _ _ so_far.grows here.grows;
      given = here.given ∙ so_far.given;
      later = omega arith;
      items = so_far.items;
      lists = lists_step _ _ c.as_slice-text-items.result.now c.loop-text.text-index c.text-item.result c.as_str.result.now c.loop-text.listing.names c.add_text.new.listing.names
          c.loop-text-test.true c.text-item.is c.as_str.ensures here.grows so_far.lists here.ok;
      knows = here.knows;
      few = here.few;
    }
