use Rattle.std.proofs.Common.{◌-◌, ◌≡◌, ◌≤◌, ◌<◌, get_or, ℕ, List, length, take}
use Rattle.ledger.specs.Reader.{CanRead, Stood, Rests}
use Rattle.ledger.proofs.reader.EntryReader.take.Given as goal

abbrev pub invariant-loop-done : goal.invariant-loop-done
invariant-loop-done g l = record {
  within : l.done ≤ length l.into;
  low : (i : ℕ) → get_or l.into i 0 < 256;
  size : length l.into ≡ length l.fn.into;
  place : l.place ≡ l.fn.self.at;
  end : l.self.to ≡ l.fn.self.to;
  rests : Rests (g.D.Disk.state l.fn.disk) (g.D.Disk.state l.disk);
  later : g.D.Disk.faults l.fn.disk ≤ g.D.Disk.faults l.disk;
  same : g.D.Disk.faults l.disk ≡ g.D.Disk.faults l.fn.disk;
  reads : (file : List ℕ) (to : ℕ) → CanRead (g.D.Disk.state l.fn.disk) l.ledger file to l.fn.self → CanRead (g.D.Disk.state l.disk) l.ledger file to l.self × Stood file to l.fn.self.at l.self.at (take l.done l.into);
}

abbrev pub decreases-loop-done : goal.decreases-loop-done
decreases-loop-done g l = length l.into - l.done
