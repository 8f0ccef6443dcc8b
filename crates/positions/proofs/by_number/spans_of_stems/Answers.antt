use Rattle.std.proofs.Common.{List, ℕ, subst, take}
use Rattle.positions.specs.SpanSteps.{StopsStems}
use Rattle.positions.proofs.Adding.{handed_on}
use Rattle.positions.proofs.Listings.{stops_at_stem}
use Rattle.positions.proofs.by_number.spans_of_stems.Goals as goal

pub returns-in_err-add_text-clause-stopped : goal.returns-in_err-add_text-clause-stopped
returns-in_err-add_text-clause-stopped g c =
    let places = c.args.places.now.entries in
    let before = g.L.Logs.folder c.args.logs.now in
    let mid = g.L.Logs.folder c.loop-text.logs in
    let now = g.L.Logs.folder c.add_text.new.logs in
    let so_far = c.loop-text.invariant in
    let here = c.in_err-add_text.ensures in
    let fault = c.in_err-add_text.field-0.0 in
    let texts = c.as_slice-text-items.result.now in
    handed_on c.from_residual.result fault (StopsStems places before now c.args.texts.now) c.from_residual.ensures.1
    (subst (λ (ts : List (List ℕ)). StopsStems places before now ts fault) c.as_slice-text-items.ensures
    (stops_at_stem places before mid now texts c.loop-text.text-index c.text-item.result c.as_str.result.now c.loop-text.spans fault c.loop-text-test.true c.text-item.is c.as_str.ensures here.grows so_far.spans so_far.few
    (λ entries tells. here.stopped before entries (take c.loop-text.text-index texts) so_far.grows tells so_far.knows)))
