use Rattle.std.proofs.Common.{◌≡◌, ◌≤◌, ◌<◌, ◌+◌, ◌-◌, ℕ, length}
use Rattle.lp_model.specs.Outside.{OnlyGrow}
use Rattle.run_model.specs.Listed.{rotated_files}
use Rattle.generations.specs.Ranges.{Has}
use Rattle.positions.specs.Spans.{AddsSpans}
use Rattle.positions.proofs.by_number.add_rotated.Given as goal

-- the numbers so far are there, and their files have their spans
abbrev pub invariant-loop-number : goal.invariant-loop-number
invariant-loop-number g l = record {
  low : l.first ≤ l.number;
  high : l.number - l.first ≤ l.last + 1 - l.first;
  grows : OnlyGrow (g.L.Logs.folder l.fn.logs) (g.L.Logs.folder l.logs);
  given : g.L.Logs.given l.logs ≡ g.L.Logs.given l.fn.logs;
  later : g.L.Logs.faults l.fn.logs ≤ g.L.Logs.faults l.logs;
  steady : g.L.Logs.faults l.logs ≡ g.L.Logs.faults l.fn.logs;
  adds : AddsSpans l.places.entries (g.L.Logs.folder l.fn.logs) (g.L.Logs.folder l.logs) (rotated_files l.stem l.first (l.number - l.first)) l.fn.spans l.spans;
  there : (other : ℕ) → l.first ≤ other → other < l.number → Has l.numbers other;
  few : length l.spans ≤ 100000;
}
