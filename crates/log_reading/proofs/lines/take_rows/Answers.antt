use Rattle.std.proofs.Common.{◌≡◌, ◌+◌, List, drop, map, length, subst, ap, ◌∙◌, arith}
use Rattle.std.proofs.lemmas.List.{take_all}
use Rattle.line_input.specs.Taken.{slots_of}
use Rattle.log_reading.specs.Found.{Met}
use Rattle.log_reading.proofs.Founds.{founds, founds_more, founds_split}
use Rattle.lp_model.proofs.Results.{on_err}
use Rattle.log_reading.proofs.lines.take_rows.Goals as goal

pub loop-fields-init : goal.loop-fields-init
loop-fields-init g c = record { takes = g.met.T.Taker.takes_none _ _; count = omega arith; goes = g.met.T.Taker.goes_nowhere _; later = omega arith }

pub take-requires-clause-room : goal.take-requires-clause-room
take-requires-clause-room g c =
    let so_far = c.loop-fields.invariant.count in
    let room = c.requires.room in
    let size : length c.as_slice-fields-items.result.now ≡ length c.args.list.now = ap length c.as_slice-fields-items.ensures in
    let below = c.loop-fields-test.true in
    omega arith

pub loop-fields-preserved : goal.loop-fields-preserved
loop-fields-preserved g c =
    let items = c.as_slice-fields-items.result.now in
    let i = c.loop-fields.fields-index in
    let now = c.take.new in
    let here = c.in_ok-take.ensures in
    let so_far = c.loop-fields.invariant in
    let later = here.later in
    let before = so_far.later in
    let count = here.count in
    let count_before = so_far.count in
    let Now : List Met → Type 0 = λ t. g.T.Taker.takes c.args.taker.now c.args.out.now t now.self now.out in
    record {
      takes = subst Now (founds_more (slots_of c.args.line.now) c.args.identity.now c.args.number c.args.columns.now items i c.fields-item.result c.loop-fields-test.true c.fields-item.is)
          (g.met.T.Taker.takes_more _ _ _ _ _ _ _ _ so_far.takes here.takes);
      count = omega arith;
      goes = g.met.T.Taker.goes_on _ _ _ so_far.goes here.goes;
      later = omega arith;
    }

pub returns-in_err-take-clause-stops : goal.returns-in_err-take-clause-stops
returns-in_err-take-clause-stops g c =
    let items = c.as_slice-fields-items.result.now in
    let i = c.loop-fields.fields-index in
    let Now : List Met → Type 0 = λ t. g.T.Taker.stops c.args.taker.now c.args.out.now t c.take.new.self c.take.new.out in
    let rest = founds c.args.identity.now c.args.number c.args.columns.now (map (slots_of c.args.line.now) (drop (i + 1) items)) in
    on_err _ c.from_residual.result
    (subst Now (founds_split (slots_of c.args.line.now) c.args.identity.now c.args.number c.args.columns.now items i c.fields-item.result c.loop-fields-test.true c.fields-item.is ∙ ap (λ t. founds c.args.identity.now c.args.number c.args.columns.now (map (slots_of c.args.line.now) t)) c.as_slice-fields-items.ensures)
    (g.met.T.Taker.stops_more _ _ _ _ _ rest (g.met.T.Taker.stops_later _ _ _ _ _ _ _ _ c.loop-fields.invariant.takes c.in_err-take.ensures.stops)))

pub returns-clause-takes : goal.returns-clause-takes
returns-clause-takes g c =
    let items = c.as_slice-fields-items.result.now in
    let i = c.loop-fields.fields-index in
    let Now : List Met → Type 0 = λ t. g.T.Taker.takes c.args.taker.now c.args.out.now t c.loop-fields.taker c.loop-fields.out in
    subst Now (ap (λ t. founds c.args.identity.now c.args.number c.args.columns.now (map (slots_of c.args.line.now) t)) (take_all i items (omega arith) ∙ c.as_slice-fields-items.ensures)) c.loop-fields.invariant.takes
