use Rattle.std.proofs.Common.{List, ℕ, ap, sym, ◌∙◌, ◌++◌, ◌∷◌, []}
use Rattle.std.proofs.lemmas.Result.{on_ok_weaker}
use Rattle.log_listing.proofs.FirstNames.{knows_pushed}
use Rattle.positions.specs.SpanSteps.{identities_of}
use Rattle.positions.proofs.PlainSpans.{adds_named, adds_plain, identities_more}
use Rattle.positions.proofs.by_name.add_match.Goals as goal

pub returns-clause-plain : goal.returns-clause-plain
returns-clause-plain g c =
    let places = c.args.places.now.entries in
    let before = g.L.Logs.folder c.args.logs.now in
    let now = g.L.Logs.folder c.add_span.new.logs in
    let old = c.args.spans.now in
    let new = c.add_span.new.spans in
    let name = c.args.name.now in
    on_ok_weaker c.add_span.result (λ adds. adds_plain places before now name old new c.add_span.ensures.grows (adds_named places before now name c.copy-2.result c.copy-3.result old new c.copy-2.ensures c.copy-3.ensures adds)) c.add_span.ensures.adds

pub returns-clause-knows : goal.returns-clause-knows
returns-clause-knows g c =
    let places = c.args.places.now.entries in
    let before = g.L.Logs.folder c.args.logs.now in
    let now = g.L.Logs.folder c.add_span.new.logs in
    let old = c.args.spans.now in
    let new = c.add_span.new.spans in
    let name = c.args.name.now in
    on_ok_weaker c.add_span.result (λ adds.
    knows_pushed c.args.seen.now c.insert.new.self (identities_of old) (identities_of new) c.copy.result c.in_ok-insert.field-0 c.in_ok-insert.ensures.updates.0 c.requires.knows c.in_ok-insert.ensures.added c.if-not-branch.false
    (identities_more places before now name old new (adds_named places before now name c.copy-2.result c.copy-3.result old new c.copy-2.ensures c.copy-3.ensures adds) ∙ ap (λ (n : List ℕ). identities_of old ++ n ∷ []) (sym c.copy.ensures))) c.add_span.ensures.adds
