use Rattle.std.proofs.Common.{◌≡◌, ◌≤◌, length, take}
use Rattle.lp_model.specs.Outside.{OnlyGrow}
use Rattle.log_listing.specs.Firsts.{Knows}
use Rattle.log_listing.specs.Listed.{Lists}
use Rattle.positions.specs.SpanSteps.{identities_of, ArePlain}
use Rattle.positions.proofs.by_name.spans_of_names.Given as goal

-- the logs of the texts so far have their spans
abbrev pub invariant-loop-text : goal.invariant-loop-text
invariant-loop-text g l = record {
  grows : OnlyGrow (g.L.Logs.folder l.fn.logs) (g.L.Logs.folder l.logs);
  given : g.L.Logs.given l.logs ≡ g.L.Logs.given l.fn.logs;
  later : g.L.Logs.faults l.fn.logs ≤ g.L.Logs.faults l.logs;
  steady : g.L.Logs.faults l.logs ≡ g.L.Logs.faults l.fn.logs;
  items : l.text-items ≡ l.texts;
  lists : Lists (g.L.Logs.folder l.fn.logs) (take l.text-index l.text-items) (identities_of l.spans);
  plain : ArePlain l.places.entries (g.L.Logs.folder l.fn.logs) (g.L.Logs.folder l.logs) l.spans;
  knows : Knows l.seen (identities_of l.spans);
  few : length l.spans ≤ 100000;
}
