use Rattle.std.proofs.Common.{◌≡◌, ◌≤◌, length}
use Rattle.lp_outside.specs.Moving.{Moves}
use Rattle.lp_outside.proofs.writing.write_all.Given as goal

abbrev pub invariant-loop-rest : goal.invariant-loop-rest
invariant-loop-rest g l = record {
  moves : Moves (g.S.Sink.written l.initial.out) (g.S.Sink.written l.out) l.initial.rest l.rest;
  later : g.S.Sink.faults l.initial.out ≤ g.S.Sink.faults l.out;
  same : g.S.Sink.faults l.out ≡ g.S.Sink.faults l.initial.out;
}

abbrev pub decreases-loop-rest : goal.decreases-loop-rest
decreases-loop-rest g l = length l.rest
