use Rattle.std.proofs.Common.{◌∙◌, arith}
use Rattle.lp_model.proofs.Growing.{OnlyGrow-trans}
use Rattle.positions.specs.SpanSteps.{StopsRotated}
use Rattle.positions.proofs.Adding.{handed_on}
use Rattle.positions.proofs.StemSpans.{rotated_step, rotated_stops, there_more}
use Rattle.positions.proofs.by_number.add_rotated.Goals as goal

pub returns-in_err-add_generation-clause-stopped : goal.returns-in_err-add_generation-clause-stopped
returns-in_err-add_generation-clause-stopped g c =
    let places = c.args.places.now.entries in
    let before = g.L.Logs.folder c.args.logs.now in
    let mid = g.L.Logs.folder c.loop-number.logs in
    let now = g.L.Logs.folder c.add_generation.new.logs in
    let so_far = c.loop-number.invariant in
    let here = c.in_err-add_generation.ensures in
    let fault = c.in_err-add_generation.field-0.0 in
    handed_on c.from_residual.result fault (StopsRotated places before now c.args.spans.now c.args.stem.now c.args.numbers.now c.args.first c.args.last) c.from_residual.ensures.1
    (rotated_stops places before mid now c.args.stem.now c.args.numbers.now c.args.first c.args.last c.loop-number.number c.args.spans.now c.loop-number.spans fault so_far.low (omega (arith, c.loop-number-test.true)) so_far.there here.grows so_far.adds here.stopped)

pub loop-number-preserved : goal.loop-number-preserved
loop-number-preserved g c =
    let places = c.args.places.now.entries in
    let before = g.L.Logs.folder c.args.logs.now in
    let mid = g.L.Logs.folder c.loop-number.logs in
    let now = g.L.Logs.folder c.add_generation.new.logs in
    let so_far = c.loop-number.invariant in
    let here = c.in_ok-add_generation.ensures in
    record {
      low = omega (arith, so_far.low);
      high = omega (arith, so_far.low, c.loop-number-test.true);
      grows = OnlyGrow-trans _ _ _ so_far.grows here.grows;
      given = here.given ∙ so_far.given;
      later = omega (arith, so_far.later, here.later);
      steady = here.steady ∙ so_far.steady;
      adds = rotated_step places before mid now c.args.stem.now c.args.first c.loop-number.number c.args.spans.now c.loop-number.spans c.add_generation.new.spans so_far.low so_far.grows here.grows so_far.adds here.adds;
      there = there_more c.args.numbers.now c.args.first c.loop-number.number so_far.there here.there;
      few = here.few;
    }
