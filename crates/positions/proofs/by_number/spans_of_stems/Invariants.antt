use Rattle.std.proofs.Common.{◌≡◌, ◌≤◌, List, length, take}
use Rattle.lp_model.specs.Outside.{OnlyGrow}
use Rattle.ledger_model.specs.Entries.{Entry}
use Rattle.log_listing.specs.Firsts.{Knows, firsts}
use Rattle.positions.specs.SpanSteps.{Tells, AreStemSpans}
use Rattle.positions.specs.Readable.{AreReadable}
use Rattle.positions.proofs.by_number.spans_of_stems.Given as goal

-- the stems of the texts so far have their spans
abbrev pub invariant-loop-text : goal.invariant-loop-text
invariant-loop-text g l = record {
  grows : OnlyGrow (g.L.Logs.folder l.fn.logs) (g.L.Logs.folder l.logs);
  given : g.L.Logs.given l.logs ≡ g.L.Logs.given l.fn.logs;
  later : g.L.Logs.faults l.fn.logs ≤ g.L.Logs.faults l.logs;
  steady : g.L.Logs.faults l.logs ≡ g.L.Logs.faults l.fn.logs;
  items : l.text-items ≡ l.texts;
  spans : (entries : List Entry) → Tells entries l.places.entries → AreStemSpans l.places.entries entries (take l.text-index l.text-items) (g.L.Logs.folder l.fn.logs) (g.L.Logs.folder l.logs) l.spans;
  readable : AreReadable (g.L.Logs.folder l.logs) l.spans;
  knows : Knows l.seen (firsts (take l.text-index l.text-items));
  few : length l.spans ≤ 100000;
}
