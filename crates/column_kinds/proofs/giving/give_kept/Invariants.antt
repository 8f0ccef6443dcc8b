use Rattle.std.proofs.Common.{◌≡◌, ◌≤◌, ◌+◌, take, map}
use Rattle.column_kinds.specs.Kept.{met_in}
use Rattle.column_kinds.proofs.giving.give_kept.Given as goal

-- The records so far were taken.
abbrev pub invariant-loop-row : goal.invariant-loop-row
invariant-loop-row g l = record {
  takes : g.T.Taker.takes l.initial.taker l.initial.out (map met_in (take l.row-index l.row-items)) l.taker l.out;
  count : g.T.Taker.count l.taker ≡ g.T.Taker.count l.initial.taker + l.row-index;
  goes : g.T.Taker.goes l.initial.out l.out;
  later : g.T.Taker.faults l.initial.out ≤ g.T.Taker.faults l.out;
}
