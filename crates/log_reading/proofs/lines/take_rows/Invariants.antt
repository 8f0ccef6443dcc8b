use Rattle.std.proofs.Common.{◌≡◌, ◌≤◌, ◌+◌, take, map}
use Rattle.line_input.specs.Taken.{slots_of}
use Rattle.log_reading.proofs.Founds.{founds}
use Rattle.log_reading.proofs.lines.take_rows.Given as goal

-- The rows of the fields so far were taken.
abbrev pub invariant-loop-fields : goal.invariant-loop-fields
invariant-loop-fields g l = record {
  takes : g.T.Taker.takes l.initial.taker l.initial.out (founds l.identity l.number l.columns (map (slots_of l.line) (take l.fields-index l.fields-items))) l.taker l.out;
  count : g.T.Taker.count l.taker ≡ g.T.Taker.count l.initial.taker + l.fields-index;
  goes : g.T.Taker.goes l.initial.out l.out;
  later : g.T.Taker.faults l.initial.out ≤ g.T.Taker.faults l.out;
}
