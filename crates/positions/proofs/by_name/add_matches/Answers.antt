use Rattle.std.proofs.Common.{◌∙◌, List, ℕ, subst, arith}
use Rattle.lp_model.proofs.Growing.{OnlyGrow-trans}
use Rattle.positions.specs.SpanSteps.{identities_of, StopsAmong}
use Rattle.positions.proofs.Adding.{handed_on}
use Rattle.positions.proofs.PlainSpans.{names_step, adds_plain_then, stops_at_match}
use Rattle.positions.proofs.by_name.add_matches.Goals as goal

pub returns-in_err-add_match-clause-stopped : goal.returns-in_err-add_match-clause-stopped
returns-in_err-add_match-clause-stopped g c =
    let places = c.args.places.now.entries in
    let before = g.L.Logs.folder c.args.logs.now in
    let mid = g.L.Logs.folder c.loop-name.logs in
    let now = g.L.Logs.folder c.add_match.new.logs in
    let so_far = c.loop-name.invariant in
    let here = c.in_err-add_match.ensures in
    let fault = c.in_err-add_match.field-0.0 in
    handed_on c.from_residual.result fault (StopsAmong places before now c.args.spans.now c.args.found.now) c.from_residual.ensures.1
    (subst (λ (found : List (List ℕ)). StopsAmong places before now c.args.spans.now found fault) c.as_slice-name-items.ensures
    (stops_at_match places before mid now c.args.spans.now c.loop-name.spans c.as_slice-name-items.result.now c.loop-name.name-index c.name-item.result fault c.loop-name-test.true c.name-item.is here.grows so_far.all so_far.plain here.stopped.0 here.stopped.1))

pub loop-name-preserved : goal.loop-name-preserved
loop-name-preserved g c =
    let so_far = c.loop-name.invariant in
    let here = c.in_ok-add_match.ensures in
    record {
      grows = OnlyGrow-trans _ _ _ so_far.grows here.grows;
      given = here.given ∙ so_far.given;
      later = omega (arith, so_far.later, here.later);
      steady = here.steady ∙ so_far.steady;
      items = so_far.items;
      all = names_step c.as_slice-name-items.result.now c.loop-name.name-index c.name-item.result (identities_of c.args.spans.now) (identities_of c.loop-name.spans) (identities_of c.add_match.new.spans) c.loop-name-test.true c.name-item.is so_far.all here.all;
      plain = adds_plain_then c.args.places.now.entries (g.L.Logs.folder c.args.logs.now) (g.L.Logs.folder c.loop-name.logs) (g.L.Logs.folder c.add_match.new.logs) c.args.spans.now c.loop-name.spans c.add_match.new.spans so_far.grows so_far.plain here.plain;
      knows = here.knows;
      few = here.few;
    }
