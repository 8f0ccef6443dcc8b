use Rattle.std.proofs.Common.{◌≡◌, ◌≤◌, ℕ, List}
use Rattle.ledger.specs.Reader.{CanRead, Rests}
use Rattle.ledger.specs.Counted.{SomeItems}
use Rattle.ledger.specs.Counted.{kept_field}
use Rattle.ledger.proofs.checking.value_items.Given as goal

abbrev pub invariant-loop-index : goal.invariant-loop-index
invariant-loop-index g l = record {
  rests : Rests (g.D.Disk.state l.fn.disk) (g.D.Disk.state l.disk);
  later : g.D.Disk.faults l.fn.disk ≤ g.D.Disk.faults l.disk;
  same : g.D.Disk.faults l.disk ≡ g.D.Disk.faults l.fn.disk;
  reads : (file : List ℕ) (to : ℕ) → CanRead (g.D.Disk.state l.fn.disk) l.ledger file to l.fn.reader → CanRead (g.D.Disk.state l.disk) l.ledger file to l.reader × SomeItems (λ before. kept_field) file to l.fn.reader.at l.reader.at l._index;
}
