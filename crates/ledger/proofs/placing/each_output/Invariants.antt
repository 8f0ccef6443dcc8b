use Rattle.std.proofs.Common.{◌≡◌, ◌≤◌, ℕ, List, length, take}
use Rattle.ledger.specs.Reader.{CanRead, Rests}
use Rattle.ledger.specs.Placing.{HashedItems}
use Rattle.ledger.proofs.placing.each_output.Given as goal

abbrev pub invariant-loop-index : goal.invariant-loop-index
invariant-loop-index g l = record {
  rests : Rests (g.D.Disk.state l.fn.disk) (g.D.Disk.state l.disk);
  later : g.D.Disk.faults l.fn.disk ≤ g.D.Disk.faults l.disk;
  same : g.D.Disk.faults l.disk ≡ g.D.Disk.faults l.fn.disk;
  reads : (file : List ℕ) (to : ℕ) → CanRead (g.D.Disk.state l.fn.disk) l.ledger file to l.fn.reader → CanRead (g.D.Disk.state l.disk) l.ledger file to l.reader × HashedItems file to l.first l.reader.at l.index (take l.index l.seen);
  room : length l.seen ≡ length l.fn.seen;
}
