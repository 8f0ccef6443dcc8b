use Rattle.std.proofs.Common.{◌∙◌}
use Rattle.std.proofs.lemmas.Result.{on_ok_weaker}
use Rattle.positions.proofs.Listings.{text_added, text_again, knows_text}
use Rattle.positions.proofs.ReadableSpans.{stem_readable}
use Rattle.positions.proofs.by_number.add_text.Goals as goal

pub returns-then-not-branch-clause-adds : goal.returns-then-not-branch-clause-adds
returns-then-not-branch-clause-adds g c =
    text_again c.args.places.now.entries (g.L.Logs.folder c.args.logs.now) c.args.text.now c.copy.result c.args.seen.now c.in_ok-insert.field-0 c.args.spans.now (c.copy.ensures ∙ c.in-Ok.ensures.ok.0) c.in-Ok.ensures.ok.1 c.in_ok-insert.ensures.added c.if-not-branch.true

pub returns-then-not-branch-clause-knows : goal.returns-then-not-branch-clause-knows
returns-then-not-branch-clause-knows g c = λ texts knows. knows_text c.args.seen.now c.insert.new.self texts c.args.text.now c.copy.result (c.copy.ensures ∙ c.in-Ok.ensures.ok.0) c.in_ok-insert.ensures.updates.0 knows

pub returns-clause-adds : goal.returns-clause-adds
returns-clause-adds g c =
    on_ok_weaker c.add_stem.result (λ adds.
    text_added c.args.places.now.entries (g.L.Logs.folder c.args.logs.now) (g.L.Logs.folder c.add_stem.new.logs) c.args.text.now c.in-Ok.stem c.copy.result c.args.seen.now c.in_ok-insert.field-0 c.args.spans.now c.add_stem.new.spans c.add_stem.ensures.grows c.in-Ok.ensures.ok.0 (c.copy.ensures ∙ c.in-Ok.ensures.ok.0) c.in-Ok.ensures.ok.1 c.in_ok-insert.ensures.added c.if-not-branch.false adds)
    c.add_stem.ensures.adds

pub returns-clause-knows : goal.returns-clause-knows
returns-clause-knows g c =
    on_ok_weaker c.add_stem.result (λ adds. λ texts knows. knows_text c.args.seen.now c.insert.new.self texts c.args.text.now c.copy.result (c.copy.ensures ∙ c.in-Ok.ensures.ok.0) c.in_ok-insert.ensures.updates.0 knows)
    c.add_stem.ensures.adds

pub returns-clause-readable : goal.returns-clause-readable
returns-clause-readable g c =
    on_ok_weaker c.add_stem.result (λ adds. stem_readable c.args.places.now.entries (g.L.Logs.folder c.args.logs.now) (g.L.Logs.folder c.add_stem.new.logs) c.in-Ok.stem c.args.spans.now c.add_stem.new.spans c.add_stem.ensures.grows adds) c.add_stem.ensures.adds
