use Rattle.std.proofs.Common.{◌≡◌, ◌+◌, length, max, subst, ℕ}
use Rattle.std.proofs.lemmas.Result.{on_ok_weaker, IfErr-weaker}
use Rattle.lp_model.proofs.Growing.{OnlyGrow-trans}
use Rattle.generations.specs.Files.{live_part}
use Rattle.positions.specs.Spans.{AddsSpans}
use Rattle.positions.specs.SpanSteps.{live_file}
use Rattle.positions.proofs.Adding.{handed_on}
use Rattle.positions.proofs.StemSpans.{files_of, lists_of, adds_then, range_stops, live_stops, other_rotated, other_listed}
use Rattle.positions.proofs.by_number.add_files.Goals as goal

pub returns-in_err-add_rotated-clause-stopped : goal.returns-in_err-add_rotated-clause-stopped
returns-in_err-add_rotated-clause-stopped g c =
    let before = g.L.Logs.folder c.args.logs.now in
    let now = g.L.Logs.folder c.add_rotated.new.logs in
    let fault = c.in_err-add_rotated.field-0.0 in
    let here = c.in_err-add_rotated.ensures in
    handed_on c.from_residual.result fault _ c.from_residual.ensures.1
    (λ start entries reached begins are is_live knows new.
    range_stops c.args.places.now.entries entries start before now reached c.args.stem.now c.args.spans.now c.args.numbers.now c.args.live c.args.known c.first_of-first.result c.last_of-newest.result fault begins (OnlyGrow-trans start before now begins here.grows) new are is_live knows c.first_of-first.ensures c.last_of-newest.ensures here.stopped)

pub returns-in_err-add_rotated-clause-other : goal.returns-in_err-add_rotated-clause-other
returns-in_err-add_rotated-clause-other g c =
    let before = g.L.Logs.folder c.args.logs.now in
    let now = g.L.Logs.folder c.add_rotated.new.logs in
    let fault = c.in_err-add_rotated.field-0.0 in
    handed_on c.from_residual.result fault _ c.from_residual.ensures.1 (other_rotated c.args.places.now.entries before now c.args.spans.now c.args.stem.now c.args.numbers.now c.first_of-first.result c.last_of-newest.result fault c.in_err-add_rotated.ensures.stopped)

pub returns-clause-adds : goal.returns-clause-adds
returns-clause-adds g c =
    let places = c.args.places.now.entries in
    let stem = c.args.stem.now in
    let live = c.args.live in
    let first = c.first_of-first.result in
    let newest = c.last_of-newest.result in
    let before = g.L.Logs.folder c.args.logs.now in
    let mid = g.L.Logs.folder c.add_rotated.new.logs in
    let now = g.L.Logs.folder c.add_live.new.logs in
    let rotated = c.in_ok-add_rotated.ensures in
    let number : c.max.result ≡ max (newest + 1) first = c.max.ensures in
    on_ok_weaker c.add_live.result (λ adds. record {
      files = files_of stem live first newest;
      lists = lists_of c.args.numbers.now live c.args.known stem first newest c.first_of-first.ensures c.last_of-newest.ensures rotated.there c.if-has_none.ensures;
      adds = adds_then places before mid now _ _ c.args.spans.now c.add_rotated.new.spans c.add_live.new.spans rotated.grows c.add_live.ensures.grows rotated.adds (subst (λ (n : ℕ). AddsSpans places mid now (live_part live stem n) c.add_rotated.new.spans c.add_live.new.spans) number adds);
    }) c.add_live.ensures.adds

pub returns-clause-stopped : goal.returns-clause-stopped
returns-clause-stopped g c =
    let places = c.args.places.now.entries in
    let stem = c.args.stem.now in
    let live = c.args.live in
    let first = c.first_of-first.result in
    let newest = c.last_of-newest.result in
    let before = g.L.Logs.folder c.args.logs.now in
    let mid = g.L.Logs.folder c.add_rotated.new.logs in
    let now = g.L.Logs.folder c.add_live.new.logs in
    let rotated = c.in_ok-add_rotated.ensures in
    let number : c.max.result ≡ max (newest + 1) first = c.max.ensures in
    IfErr-weaker c.add_live.result _ _
    (λ fault s. λ start entries reached begins are is_live knows new.
    live_stops places entries start before mid now reached stem c.args.spans.now c.add_rotated.new.spans c.args.numbers.now live c.args.known first newest c.max.result fault number begins c.add_live.ensures.grows
    (OnlyGrow-trans start before now begins (OnlyGrow-trans before mid now rotated.grows c.add_live.ensures.grows)) new are is_live knows c.first_of-first.ensures c.last_of-newest.ensures rotated.there rotated.adds s.0 s.1)
    c.add_live.ensures.stopped

pub returns-clause-other : goal.returns-clause-other
returns-clause-other g c =
    let now = g.L.Logs.folder c.add_live.new.logs in
    let own = live_file c.args.stem.now c.max.result in
    IfErr-weaker c.add_live.result _ _ (λ fault s. other_listed c.args.places.now.entries now (length c.add_rotated.new.spans) own fault s.1) c.add_live.ensures.stopped
