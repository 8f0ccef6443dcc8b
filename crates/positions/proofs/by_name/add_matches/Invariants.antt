use Rattle.std.proofs.Common.{◌≡◌, ◌≤◌, length, take}
use Rattle.lp_model.specs.Outside.{OnlyGrow}
use Rattle.log_listing.specs.Firsts.{Knows, with_names}
use Rattle.positions.specs.SpanSteps.{identities_of, AddsPlain}
use Rattle.positions.proofs.by_name.add_matches.Given as goal

-- the files so far have their spans
abbrev pub invariant-loop-name : goal.invariant-loop-name
invariant-loop-name g l = record {
  grows : OnlyGrow (g.L.Logs.folder l.fn.logs) (g.L.Logs.folder l.logs);
  given : g.L.Logs.given l.logs ≡ g.L.Logs.given l.fn.logs;
  later : g.L.Logs.faults l.fn.logs ≤ g.L.Logs.faults l.logs;
  steady : g.L.Logs.faults l.logs ≡ g.L.Logs.faults l.fn.logs;
  items : l.name-items ≡ l.found;
  all : identities_of l.spans ≡ with_names (identities_of l.fn.spans) (take l.name-index l.name-items);
  plain : AddsPlain l.places.entries (g.L.Logs.folder l.fn.logs) (g.L.Logs.folder l.logs) l.fn.spans l.spans;
  knows : Knows l.seen (identities_of l.spans);
  few : length l.spans ≤ 100000;
}
