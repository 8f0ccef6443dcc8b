use Rattle.std.proofs.Common.{◌≡◌, ◌≤◌, ◌+◌, ◌-◌, length}
use Rattle.lp_model.specs.Outside.{OnlyGrow}
use Rattle.lp_model.specs.Pieces.{IsPiece}
use Rattle.requests.proofs.file.read_bytes.Given as goal

-- The bytes so far are the first of the file.
abbrev pub invariant-loop-chunk : goal.invariant-loop-chunk
invariant-loop-chunk g l = record {
  grows : OnlyGrow (g.L.Logs.folder l.initial.logs) (g.L.Logs.folder l.logs);
  piece : IsPiece (g.L.Logs.folder l.logs) l.name 0 l.cut l.bytes;
  given : g.L.Logs.given l.logs ≡ g.L.Logs.given l.initial.logs + length l.bytes;
  within : length l.bytes ≤ l.cut;
  later : g.L.Logs.faults l.initial.logs ≤ g.L.Logs.faults l.logs;
  chunk : length l.chunk ≡ 4096;
}

abbrev pub decreases-loop-chunk : goal.decreases-loop-chunk
decreases-loop-chunk g l = l.cut - length l.bytes
