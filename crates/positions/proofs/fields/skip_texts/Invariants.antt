use Rattle.std.proofs.Common.{◌≡◌, ◌≤◌, ◌-◌, ℕ, List}
use Rattle.ledger.specs.Reader.{Rests}
use Rattle.positions.proofs.Skips.{TextsLeft}
use Rattle.positions.proofs.fields.skip_texts.Given as goal

abbrev pub invariant-loop-index : goal.invariant-loop-index
invariant-loop-index g l = record {
  rests : Rests (g.D.Disk.state l.fn.disk) (g.D.Disk.state l.disk);
  later : g.D.Disk.faults l.fn.disk ≤ g.D.Disk.faults l.disk;
  same : g.D.Disk.faults l.disk ≡ g.D.Disk.faults l.fn.disk;
  left : (more : List ℕ) → TextsLeft (g.D.Disk.state l.fn.disk) l.ledger l.to l.fn.reader l.count more → TextsLeft (g.D.Disk.state l.disk) l.ledger l.to l.reader (l.count - l._index) more;
}
