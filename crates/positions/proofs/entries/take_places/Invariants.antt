use Rattle.std.proofs.Common.{◌≡◌, ◌≤◌, ◌-◌, ℕ, List}
use Rattle.ledger_model.specs.Entries.{Span}
use Rattle.ledger.specs.Reader.{Rests}
use Rattle.positions.proofs.Taking.{SpansLeft}
use Rattle.positions.proofs.entries.take_places.Given as goal

abbrev pub invariant-loop-index : goal.invariant-loop-index
invariant-loop-index g l = record {
  rests : Rests (g.D.Disk.state l.fn.disk) (g.D.Disk.state l.disk);
  later : g.D.Disk.faults l.fn.disk ≤ g.D.Disk.faults l.disk;
  same : g.D.Disk.faults l.disk ≡ g.D.Disk.faults l.fn.disk;
  left : (to : ℕ) (all : List Span) (more : List ℕ) → SpansLeft (g.D.Disk.state l.fn.disk) l.ledger to l.fn.reader l.count more all l.fn.places.entries → SpansLeft (g.D.Disk.state l.disk) l.ledger to l.reader (l.count - l._index) more all l.places.entries;
}
