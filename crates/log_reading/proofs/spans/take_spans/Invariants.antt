use Rattle.std.proofs.Common.{◌≡◌, ◌⊎◌, length, ◌≤◌, ◌+◌, take, map, ◌++◌}
use Rattle.lp_model.specs.Outside.{OnlyGrow, Told}
use Rattle.log_reading.specs.Page.{IsWithin}
use Rattle.log_reading.specs.Spans.{AreKept, TakesSpans, ReadsAhead, spans_size, took_of}
use Rattle.log_reading.proofs.Readable.{StillReadable}
use Rattle.log_reading.proofs.spans.take_spans.Given as goal

-- The rows of the spans so far were taken.
abbrev pub invariant-loop-span : goal.invariant-loop-span
invariant-loop-span g l = record {
  grows : OnlyGrow (g.L.LogSource.folder l.initial.logs) (g.L.LogSource.folder l.logs);
  goes_logs : g.L.LogSource.goes l.initial.logs l.logs;
  readable : StillReadable g.L.LogSource.folder g.L.LogSource.ready l.logs l.spans l.span-index;
  takes : Told (g.L.LogSource.folder l.logs) (λ folder. AreKept (g.R.LineReader.format l.reader) l.waits (take l.span-index l.spans) folder
      → TakesSpans g.T.Taker.takes (g.R.LineReader.format l.reader) l.waits folder (take l.span-index l.spans) l.initial.page l.page l.initial.out l.out);
  took : Told (g.L.LogSource.folder l.logs) (λ folder. AreKept (g.R.LineReader.format l.reader) l.waits (take l.span-index l.spans) folder → l.took ≡ l.initial.took ++ map (took_of (g.R.LineReader.format l.reader) l.waits folder) (take l.span-index l.spans));
  handed : g.T.Taker.handed_on l.page.taker l.out;
  ahead : (g.L.LogSource.given l.logs ≡ g.L.LogSource.given l.initial.logs) ⊎ ReadsAhead g.T.Taker.takes g.T.Taker.goes g.T.Taker.handed_on (g.R.LineReader.format l.reader) l.waits (g.L.LogSource.folder l.logs) l.spans (length l.initial.chunk) (g.L.LogSource.given l.initial.logs) (g.L.LogSource.given l.logs) l.initial.page.taker l.initial.out l.out;
  within : IsWithin l.page.most_bad l.page.bad;
  most : l.page.most_bad ≡ l.initial.page.most_bad;
  rows : l.page.rows ≤ l.initial.page.rows + spans_size (take l.span-index l.spans) + l.span-index;
  bad : l.page.bad ≤ l.initial.page.bad + spans_size (take l.span-index l.spans) + l.span-index;
  taken : g.T.Taker.count l.page.taker ≤ g.T.Taker.count l.initial.page.taker + spans_size (take l.span-index l.spans) + l.span-index;
  given : g.L.LogSource.given l.logs ≤ g.L.LogSource.given l.initial.logs + spans_size (take l.span-index l.spans);
  later_logs : g.L.LogSource.faults l.initial.logs ≤ g.L.LogSource.faults l.logs;
  goes : g.T.Taker.goes l.initial.out l.out;
  later : g.T.Taker.faults l.initial.out ≤ g.T.Taker.faults l.out;
}
