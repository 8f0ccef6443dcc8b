use Rattle.std.proofs.Common.{◌∙◌, List, ℕ, subst, arith}
use Rattle.lp_model.proofs.Growing.{OnlyGrow-trans}
use Rattle.positions.specs.SpanSteps.{identities_of, StopsNames}
use Rattle.positions.proofs.Adding.{handed_on}
use Rattle.positions.proofs.Listings.{names_turn, stops_at_name}
use Rattle.positions.proofs.ReadableSpans.{plain_readable}
use Rattle.positions.proofs.by_name.spans_of_names.Goals as goal

pub returns-in_err-add_name-clause-stopped : goal.returns-in_err-add_name-clause-stopped
returns-in_err-add_name-clause-stopped g c =
    let places = c.args.places.now.entries in
    let before = g.L.Logs.folder c.args.logs.now in
    let mid = g.L.Logs.folder c.loop-text.logs in
    let now = g.L.Logs.folder c.add_name.new.logs in
    let so_far = c.loop-text.invariant in
    let here = c.in_err-add_name.ensures in
    let fault = c.in_err-add_name.field-0.0 in
    handed_on c.from_residual.result fault (StopsNames places before now c.args.texts.now) c.from_residual.ensures.1
    (subst (λ (texts : List (List ℕ)). StopsNames places before now texts fault) c.as_slice-text-items.ensures
    (stops_at_name places before mid now c.as_slice-text-items.result.now c.loop-text.text-index c.text-item.result c.as_str.result.now c.loop-text.spans fault c.loop-text-test.true c.text-item.is c.as_str.ensures here.grows so_far.lists so_far.plain so_far.few (here.stopped before so_far.grows so_far.plain)))

pub returns-in_err-add_name-clause-grows : goal.returns-in_err-add_name-clause-grows
returns-in_err-add_name-clause-grows g c = OnlyGrow-trans _ _ _ c.loop-text.invariant.grows c.add_name.ensures.grows

pub loop-text-preserved : goal.loop-text-preserved
loop-text-preserved g c =
    let so_far = c.loop-text.invariant in
    let here = c.in_ok-add_name.ensures in
    record {
      grows = OnlyGrow-trans _ _ _ so_far.grows here.grows;
      given = here.given ∙ so_far.given;
      later = omega (arith, so_far.later, here.later);
      steady = here.steady ∙ so_far.steady;
      items = so_far.items;
      lists = names_turn (g.L.Logs.folder c.args.logs.now) (g.L.Logs.folder c.loop-text.logs) c.as_slice-text-items.result.now c.loop-text.text-index c.text-item.result c.as_str.result.now (identities_of c.loop-text.spans) (identities_of c.add_name.new.spans) c.loop-text-test.true c.text-item.is c.as_str.ensures so_far.grows so_far.lists here.adds;
      plain = here.plain (g.L.Logs.folder c.args.logs.now) so_far.grows so_far.plain;
      knows = here.knows;
      few = here.few;
    }

pub returns-clause-readable : goal.returns-clause-readable
returns-clause-readable g c = plain_readable c.args.places.now.entries (g.L.Logs.folder c.args.logs.now) (g.L.Logs.folder c.loop-text.logs) c.loop-text.spans c.loop-text.invariant.plain
