use Rattle.std.proofs.Common.{◌≡◌, ◌≤◌, ◌+◌, ◌-◌, length, Bool, false, if◌then◌else◌}
use Rattle.std.specs.List.{position_or_len}
use Rattle.lp_model.specs.Lines.{is_lf}
use Rattle.lp_model.specs.Outside.{OnlyGrow}
use Rattle.log_reading.specs.Parts.{IsReadUp}
use Rattle.log_reading.specs.Page.{HasRoom, Spends, IsWithin}
use Rattle.log_reading.specs.Spans.{HasRead}
use Rattle.log_reading.proofs.logs.read_log.Given as goal

-- A part of the log was read.
abbrev pub invariant-log : goal.invariant-log
invariant-log g l = record {
  grows : OnlyGrow (g.L.LogSource.folder l.initial.logs) (g.L.LogSource.folder l.logs);
  goes_logs : g.L.LogSource.goes l.initial.logs l.logs;
  ready : g.L.LogSource.ready l.logs l.span.name (l.page.splitter.place + length l.page.splitter.left);
  ended : l.more ≡ false → IsReadUp (g.L.LogSource.folder l.logs) l.span.name (l.page.splitter.place + length l.page.splitter.left) l.span.listed;
  read : (waits : Bool) → HasRead g.T.Taker.takes (g.R.LineReader.format l.reader) l.span.identity waits (g.L.LogSource.folder l.logs) l.span.name l.span.listed l.initial.page l.page l.initial.out l.out;
  fits : l.page.splitter.place + length l.page.splitter.left ≤ l.span.listed;
  last : length l.page.splitter.left ≤ position_or_len is_lf l.page.splitter.left;
  handed : g.T.Taker.handed_on l.page.taker l.out;
  within : IsWithin l.page.most_bad l.page.bad;
  most : l.page.most_bad ≡ l.initial.page.most_bad;
  room : HasRoom g.T.Taker.count l.page (l.span.listed - l.page.splitter.place + 1);
  spends : Spends g.T.Taker.count l.initial.page l.page ((l.page.splitter.place + length l.page.splitter.left) - l.initial.page.splitter.place);
  longer : l.initial.page.splitter.place ≤ l.page.splitter.place + length l.page.splitter.left;
  given : g.L.LogSource.given l.logs + l.initial.page.splitter.place ≡ g.L.LogSource.given l.initial.logs + (l.page.splitter.place + length l.page.splitter.left);
  later_logs : g.L.LogSource.faults l.initial.logs ≤ g.L.LogSource.faults l.logs;
  goes : g.T.Taker.goes l.initial.out l.out;
  later : g.T.Taker.faults l.initial.out ≤ g.T.Taker.faults l.out;
}

abbrev pub decreases-log : goal.decreases-log
decreases-log g l = (l.span.listed - (l.page.splitter.place + length l.page.splitter.left)) + (if l.more then 1 else 0)
