use Rattle.std.proofs.Common.{◌∙◌, ◌<◌, length, sym, inl, arith}
use Rattle.std.proofs.lemmas.Result.{on_ok_weaker, IfErr-weaker}
use Rattle.lp_model.proofs.Growing.{OnlyGrow-trans}
use Rattle.positions.proofs.PlainSpans.{missing_of, gives_of, adds_plain_earlier, plain_later, name_stops}
use Rattle.positions.proofs.by_name.add_name.Goals as goal

pub returns-then-len-eq0-clause-stopped : goal.returns-then-len-eq0-clause-stopped
returns-then-len-eq0-clause-stopped g c = λ start begins plain.
    let old = g.L.Logs.folder c.args.logs.now in
    let mid = g.L.Logs.folder c.names.new.self in
    inl (missing_of start mid c.args.text.now c.in-Ok.name c.in-Ok-names.found (OnlyGrow-trans start old mid begins c.names.ensures.grows) c.in-Ok.ensures.0 c.in-Ok.ensures.1 c.in-Ok-names.ensures.found (sym c.len.ensures ∙ c.if-len-eq0.true))

pub returns-clause-adds : goal.returns-clause-adds
returns-clause-adds g c =
    let old = g.L.Logs.folder c.args.logs.now in
    let mid = g.L.Logs.folder c.names.new.self in
    let some : 0 < length c.in-Ok-names.found = omega (arith, c.len.ensures, c.if-len-eq0.false) in
    on_ok_weaker c.add_matches.result (λ all. record { found = c.in-Ok-names.found; gives = gives_of old mid c.args.text.now c.in-Ok.name c.in-Ok-names.found c.names.ensures.grows c.in-Ok.ensures.0 c.in-Ok.ensures.1 c.in-Ok-names.ensures.found some; all = all }) c.add_matches.ensures.all

pub returns-clause-plain : goal.returns-clause-plain
returns-clause-plain g c =
    let old = g.L.Logs.folder c.args.logs.now in
    let mid = g.L.Logs.folder c.names.new.self in
    let now = g.L.Logs.folder c.add_matches.new.logs in
    on_ok_weaker c.add_matches.result (λ adds. adds_plain_earlier c.args.places.now.entries old mid now c.args.spans.now c.add_matches.new.spans c.names.ensures.grows adds) c.add_matches.ensures.plain

pub returns-clause-stopped : goal.returns-clause-stopped
returns-clause-stopped g c =
    let places = c.args.places.now.entries in
    let old = g.L.Logs.folder c.args.logs.now in
    let mid = g.L.Logs.folder c.names.new.self in
    let now = g.L.Logs.folder c.add_matches.new.logs in
    let some : 0 < length c.in-Ok-names.found = omega (arith, c.len.ensures, c.if-len-eq0.false) in
    IfErr-weaker c.add_matches.result _ _
    (λ fault s. λ start begins plain.
    let first = OnlyGrow-trans start old mid begins c.names.ensures.grows in
    name_stops places start mid now c.args.text.now c.args.spans.now c.in-Ok-names.found fault first (OnlyGrow-trans start mid now first c.add_matches.ensures.grows)
    (gives_of start mid c.args.text.now c.in-Ok.name c.in-Ok-names.found first c.in-Ok.ensures.0 c.in-Ok.ensures.1 c.in-Ok-names.ensures.found some)
    (plain_later places start old mid c.args.spans.now c.names.ensures.grows plain) s)
    c.add_matches.ensures.stopped
