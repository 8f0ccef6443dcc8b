use Rattle.std.proofs.Common.{◌≡◌, ◌+◌, ◌∷◌, [], ℕ, List, drop, map, length, subst, ap, ◌∙◌, arith}
use Rattle.std.proofs.lemmas.List.{take_all}
use Rattle.log_reading.specs.Found.{Met, row_met}
use Rattle.lp_model.proofs.Results.{on_err}
use Rattle.column_kinds.specs.Kept.{met_in}
use Rattle.column_kinds.proofs.KeptRecords.{found_on, kept_more, kept_split}
use Rattle.column_kinds.proofs.giving.give_kept.Goals as goal

pub loop-row-init : goal.loop-row-init
loop-row-init g c = record { takes = g.met.T.Taker.takes_none _ _; count = omega arith; goes = g.met.T.Taker.goes_nowhere _; later = omega arith }

pub take-requires-clause-room : goal.take-requires-clause-room
take-requires-clause-room g c =
    let so_far = c.loop-row.invariant.count in
    let room = c.requires in
    let size : length c.as_slice-row-items.result.now ≡ length c.args.rows.now = ap length c.as_slice-row-items.ensures in
    let below = c.loop-row-test.true in
    omega arith

pub loop-row-preserved : goal.loop-row-preserved
loop-row-preserved g c =
    let items = c.as_slice-row-items.result.now in
    let i = c.loop-row.row-index in
    let now = c.take.new in
    let here = c.in_ok-take.ensures in
    let so_far = c.loop-row.invariant in
    let later = here.later in
    let before = so_far.later in
    let count = here.count in
    let count_before = so_far.count in
    let row = c.row-item.result in
    let One : List ℕ → Type 0 = λ line. g.T.Taker.takes c.loop-row.taker c.loop-row.out (row_met (found_on row line) ∷ []) now.self now.out in
    let Now : List Met → Type 0 = λ t. g.T.Taker.takes c.args.taker.now c.args.out.now t now.self now.out in
    record {
      takes = subst Now (kept_more items i c.row-item.result c.loop-row-test.true c.row-item.is) (g.met.T.Taker.takes_more _ _ _ _ _ _ _ _ so_far.takes (subst One c.as_slice-line.ensures here.takes));
      count = omega arith;
      goes = g.met.T.Taker.goes_on _ _ _ so_far.goes here.goes;
      later = omega arith;
    }

pub returns-in_err-take-clause-stops : goal.returns-in_err-take-clause-stops
returns-in_err-take-clause-stops g c =
    let items = c.as_slice-row-items.result.now in
    let i = c.loop-row.row-index in
    let One : List ℕ → Type 0 = λ line. g.T.Taker.stops c.loop-row.taker c.loop-row.out (row_met (found_on c.row-item.result line) ∷ []) c.take.new.self c.take.new.out in
    let Now : List Met → Type 0 = λ t. g.T.Taker.stops c.args.taker.now c.args.out.now t c.take.new.self c.take.new.out in
    let rest = map met_in (drop (i + 1) items) in
    on_err _ c.from_residual.result
    (subst Now (kept_split items i c.row-item.result c.loop-row-test.true c.row-item.is ∙ ap (map met_in) c.as_slice-row-items.ensures)
    (g.met.T.Taker.stops_more _ _ _ _ _ rest (g.met.T.Taker.stops_later _ _ _ _ _ _ _ _ c.loop-row.invariant.takes (subst One c.as_slice-line.ensures c.in_err-take.ensures.stops))))

pub returns-clause-takes : goal.returns-clause-takes
returns-clause-takes g c =
    let items = c.as_slice-row-items.result.now in
    let i = c.loop-row.row-index in
    let Now : List Met → Type 0 = λ t. g.T.Taker.takes c.args.taker.now c.args.out.now t c.loop-row.taker c.loop-row.out in
    subst Now (ap (map met_in) (take_all i items (omega arith) ∙ c.as_slice-row-items.ensures)) c.loop-row.invariant.takes
