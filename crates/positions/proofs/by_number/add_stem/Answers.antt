use Rattle.std.proofs.lemmas.Result.{on_ok_weaker, IfErr-weaker}
use Rattle.lp_model.proofs.Growing.{OnlyGrow-trans}
use Rattle.positions.proofs.StemSpans.{adds_stem}
use Rattle.positions.proofs.Backward.{there_back, live_back}
use Rattle.positions.proofs.Listings.{known_as}
use Rattle.positions.proofs.by_number.add_stem.Goals as goal

pub returns-in-Ok-known_of-clause-adds : goal.returns-in-Ok-known_of-clause-adds
returns-in-Ok-known_of-clause-adds g c =
    let places = c.args.places.now.entries in
    let stem = c.args.stem.now in
    let old = g.L.Logs.folder c.args.logs.now in
    let first = g.L.Logs.folder c.is_live.new.logs in
    let mid = g.L.Logs.folder c.numbers_there.new.logs in
    let now = g.L.Logs.folder c.add_files.new.logs in
    let numbers = c.in-Ok-numbers_there.numbers in
    let live = c.in-Ok.live in
    let known = c.in-Ok-known_of.known in
    on_ok_weaker c.add_files.result (λ adds.
    adds_stem places old mid now stem numbers live known c.args.spans.now c.add_files.new.spans (OnlyGrow-trans old first mid c.is_live.ensures.grows c.numbers_there.ensures.grows)
    (live_back old first stem live c.is_live.ensures.grows c.in-Ok.ensures.live) (there_back old mid stem numbers (OnlyGrow-trans old first mid c.is_live.ensures.grows c.numbers_there.ensures.grows) c.in-Ok-numbers_there.ensures.ok)
    (λ entries tells. known_as entries places stem known tells c.in-Ok-known_of.ensures.ok) adds) c.add_files.ensures.adds

pub returns-in-Ok-known_of-clause-stopped : goal.returns-in-Ok-known_of-clause-stopped
returns-in-Ok-known_of-clause-stopped g c =
    let places = c.args.places.now.entries in
    let stem = c.args.stem.now in
    let old = g.L.Logs.folder c.args.logs.now in
    let first = g.L.Logs.folder c.is_live.new.logs in
    let mid = g.L.Logs.folder c.numbers_there.new.logs in
    let numbers = c.in-Ok-numbers_there.numbers in
    let live = c.in-Ok.live in
    let known = c.in-Ok-known_of.known in
    IfErr-weaker c.add_files.result _ _
    (λ fault s. λ start entries reached begins tells fresh.
    let up_to = OnlyGrow-trans start old first begins c.is_live.ensures.grows in
    let whole = OnlyGrow-trans start first mid up_to c.numbers_there.ensures.grows in
    s start entries reached whole (there_back start mid stem numbers whole c.in-Ok-numbers_there.ensures.ok) (live_back start first stem live up_to c.in-Ok.ensures.live) (known_as entries places stem known tells c.in-Ok-known_of.ensures.ok) fresh)
    c.add_files.ensures.stopped
