use Rattle.std.proofs.Common.{ap}
use Rattle.positions.specs.Places.{Kept}
use Rattle.positions.specs.Spanning.{rule_of}
use Rattle.positions.proofs.Listings.{names_ok, names_err, stems_ok, stems_err, judged}
use Rattle.positions.proofs.ReadableSpans.{answer_low, answer_there}
use Rattle.positions.proofs.loading.Positions.span.Goals as goal

pub returns-in-Names-clause-spans : goal.returns-in-Names-clause-spans
returns-in-Names-clause-spans g c = names_ok (rule_of c.args.sources.now.rotation) c.args.self.now c.self.inside.places.entries c.args.sources.now.names (g.L.Logs.folder c.args.logs.now) (g.L.Logs.folder c.spans_of_names.new.logs) c.spans_of_names.result (ap rule_of c.in-Names.is) (ap (λ (kept : Kept). kept.places) c.self.view_is) c.spans_of_names.ensures.lists c.spans_of_names.ensures.plain c.spans_of_names.ensures.few

pub returns-in-Names-clause-stopped : goal.returns-in-Names-clause-stopped
returns-in-Names-clause-stopped g c = names_err (rule_of c.args.sources.now.rotation) c.args.self.now c.self.inside.places.entries c.args.sources.now.names (g.L.Logs.folder c.args.logs.now) (g.L.Logs.folder c.spans_of_names.new.logs) c.spans_of_names.result (ap rule_of c.in-Names.is) (ap (λ (kept : Kept). kept.places) c.self.view_is) c.spans_of_names.ensures.stopped

pub returns-in-Numbers-clause-judged : goal.returns-in-Numbers-clause-judged
returns-in-Numbers-clause-judged g c = judged _ _ c.spans_of_stems.result c.in_ok-check_input.ensures.ok c.spans_of_stems.ensures.other

pub returns-in-Numbers-clause-spans : goal.returns-in-Numbers-clause-spans
returns-in-Numbers-clause-spans g c = stems_ok (rule_of c.args.sources.now.rotation) c.args.self.now c.self.inside.places.entries c.args.sources.now.names (g.L.Logs.folder c.args.logs.now) (g.L.Logs.folder c.spans_of_stems.new.logs) c.spans_of_stems.result (ap rule_of c.in-Numbers.is) (ap (λ (kept : Kept). kept.places) c.self.view_is) c.spans_of_stems.ensures.spans c.spans_of_stems.ensures.few

pub returns-in-Numbers-clause-stopped : goal.returns-in-Numbers-clause-stopped
returns-in-Numbers-clause-stopped g c = stems_err (rule_of c.args.sources.now.rotation) c.args.self.now c.self.inside.places.entries c.args.sources.now.names (g.L.Logs.folder c.args.logs.now) (g.L.Logs.folder c.spans_of_stems.new.logs) c.spans_of_stems.result (ap rule_of c.in-Numbers.is) (ap (λ (kept : Kept). kept.places) c.self.view_is) c.spans_of_stems.ensures.stopped

pub returns-in-Names-clause-low : goal.returns-in-Names-clause-low
returns-in-Names-clause-low g c = answer_low (g.L.Logs.folder c.spans_of_names.new.logs) c.spans_of_names.result c.spans_of_names.ensures.readable

pub returns-in-Names-clause-there : goal.returns-in-Names-clause-there
returns-in-Names-clause-there g c = answer_there (g.L.Logs.folder c.spans_of_names.new.logs) c.spans_of_names.result c.spans_of_names.ensures.readable

pub returns-in-Numbers-clause-low : goal.returns-in-Numbers-clause-low
returns-in-Numbers-clause-low g c = answer_low (g.L.Logs.folder c.spans_of_stems.new.logs) c.spans_of_stems.result c.spans_of_stems.ensures.readable

pub returns-in-Numbers-clause-there : goal.returns-in-Numbers-clause-there
returns-in-Numbers-clause-there g c = answer_there (g.L.Logs.folder c.spans_of_stems.new.logs) c.spans_of_stems.result c.spans_of_stems.ensures.readable
