use Rattle.std.proofs.Common.{◌≡◌, ◌-◌, ◌≤◌, ℕ, List}
use Rattle.ledger.specs.Reader.{CanRead, Rests}
use Rattle.ledger.specs.Passing.{Passed}
use Rattle.ledger.proofs.passing.pass.Given as goal

abbrev pub invariant-loop-rest : goal.invariant-loop-rest
invariant-loop-rest g l = record {
  within : l.rest ≤ l.size;
  rests : Rests (g.D.Disk.state l.fn.disk) (g.D.Disk.state l.disk);
  later : g.D.Disk.faults l.fn.disk ≤ g.D.Disk.faults l.disk;
  same : g.D.Disk.faults l.disk ≡ g.D.Disk.faults l.fn.disk;
  passes : (file : List ℕ) (to : ℕ) → CanRead (g.D.Disk.state l.fn.disk) l.ledger file to l.fn.reader → CanRead (g.D.Disk.state l.disk) l.ledger file to l.reader × Passed l.kind file to l.fn.reader.at l.reader.at (l.size - l.rest);
}

abbrev pub decreases-loop-rest : goal.decreases-loop-rest
decreases-loop-rest g l = l.rest
